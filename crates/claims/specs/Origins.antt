-- Heard or solved (document 02, No. 6): what is claimed of the symbol call after every list of packet calls from a fresh receiver.
use Rattle.std.specs.Prelude.{◌≡◌, ◌≤◌, ◌+◌, ◌<◌, ◌∷◌, ◌++◌, ◌↔◌, Result, Ok}
use Rattle.words.specs.Words.{ℕ, List, length, Some, true, false, Bool}
use Rattle.wire.specs.declared.Setting.{Setting}
use Rattle.wire.specs.Settings.{setting_of}
use Rattle.wire.specs.Answers.{value, said}
use Rattle.history.specs.History.{Located, source, Known, located, IsValue, base_of}
use Rattle.history.specs.Origins.{Brought}
use Rattle.receiver.specs.Promises.{Layout, Opened, SymbolShown}
use Rattle.claims.specs.Run.{Step, Run, final, read, history}
use Rattle.claims.specs.Demand.{esi}
use Rattle.wire.specs.declared.Refusal.{Refusal}

-- A position in the window, after the packets `qs` were accepted, when the receiver's memory is m: of whatever the
-- symbol call may answer by its promise.
pub record ToldOrigin (L : Layout) (s : Setting) (m : List ℕ) (qs : List Located) (p : ℕ) : Type 0 where
  -- Beside the 0 it says heard exactly when an accepted source packet has brought the position,
  pub heard : (a : Result Bool Refusal) → SymbolShown L m (esi p) a → (a ≡ Ok true) ↔ Brought qs p
  -- and solved exactly when it is known and none has.
  pub solved : (a : Result Bool Refusal) → SymbolShown L m (esi p) a
      → (a ≡ Ok false) ↔ (Known s.size qs p × ¬ Brought qs p)

-- From memory on which opening has just answered 0, after every list of packet calls.
abbrev pub Origins : Layout → Type 0
Origins L =
    (scheme E w : ℕ) (flows m₀ m : List ℕ) (a : Result ℕ Refusal) → Opened L scheme E w flows m₀ m a → said a ≡ value 0
    → (ts : List Step) → Run L m ts
    → (s : Setting) × (setting_of scheme E w ≡ Some s)
    × ((b : ℕ) → base_of s (history s flows ts) ≡ Some b → (i : ℕ) → i < s.width → ToldOrigin L s (final m ts) (history s flows ts) (b + i))

-- A packet of the history has brought a position exactly when a call of the list was accepted whose packet, read at its place, is a source packet with a
-- symbol for it: whatever that call answered, and none that was refused.
pub record BroughtBy (s : Setting) (flows : List ℕ) (ts : List Step) (p : ℕ) : Type 0 where
  pub before : List Step
  pub call : Step
  pub after : List Step
  pub split : ts ≡ before ++ (call ∷ after)
  pub accepted : IsValue (said call.answer)
  pub first : ℕ
  pub symbols : List (List ℕ)
  pub read_as : read s flows (history s flows before) call ≡ located (source first symbols)
  pub low : first ≤ p
  pub high : p < first + length symbols

abbrev pub AreBroughtBy : Type 0
AreBroughtBy = (s : Setting) (flows : List ℕ) (ts : List Step) (p : ℕ) → Brought (history s flows ts) p ↔ BroughtBy s flows ts p

-- One heard never becomes solved: after more calls it is heard, as long as it is in the window.
abbrev pub StaysHeard : Layout → Type 0
StaysHeard L =
    (scheme E w : ℕ) (flows m₀ m : List ℕ) (a : Result ℕ Refusal) → Opened L scheme E w flows m₀ m a → said a ≡ value 0
    → (ts us : List Step) → Run L m (ts ++ us)
    → (s : Setting) × (setting_of scheme E w ≡ Some s)
    × ((b c p : ℕ) → base_of s (history s flows ts) ≡ Some b → base_of s (history s flows (ts ++ us)) ≡ Some c
    → b ≤ p → p < b + s.width → c ≤ p → p < c + s.width → (x : Result Bool Refusal) → SymbolShown L (final m ts) (esi p) x → x ≡ Ok true
    → (y : Result Bool Refusal) → SymbolShown L (final m (ts ++ us)) (esi p) y → y ≡ Ok true)
