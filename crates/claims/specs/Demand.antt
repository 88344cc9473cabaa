-- Demand 3: what is claimed of every list of packet calls from a fresh receiver.
use Rattle.std.specs.Borrow.{Bor}
use Rattle.std.specs.Prelude.{◌≡◌, ◌≤◌, ◌+◌, ◌<◌, ◌%◌, ◌∷◌, ◌++◌, ◌^◌, ◌↔◌, ◌⊎◌, Result}
use Rattle.words.specs.Words.{ℕ, List, length, [], Some, None, get_or}
use Rattle.wire.specs.declared.Setting.{Setting}
use Rattle.wire.specs.Settings.{setting_of}
use Rattle.history.specs.Symbol.{bytes_of}
use Rattle.wire.specs.Answers.{value, refusal, said}
use Rattle.history.specs.History.{Filling, Located, All, Consistent, Known, base_of, Judged, halfway}
use Rattle.receiver.specs.Promises.{Layout, Opened, SymbolAnswered, PartShown}
use Rattle.claims.specs.Run.{Step, Run, final, read, history}
use Rattle.claims.specs.Carrying.{Carries}
use Rattle.wire.specs.declared.Refusal.{Refusal}

-- The ESI of a position.
abbrev pub esi : ℕ → ℕ
esi p = p % 2 ^ 32

-- What is claimed of the calls that show symbols, after the packets `qs` were accepted, when the receiver's memory is m: of whatever they may
-- answer by their promises.
module _ (L : Layout) (s : Setting) (m : List ℕ) where
  open s use {size as E, width}

  -- A position in the window.
  pub record ShownExactly (qs : List Located) (p : ℕ) : Type 0 where
    -- The symbol call answers 0 or 12; 0 exactly when all fillings that satisfy every accepted packet hold the same bytes there.
    pub answers : (a : Result ℕ Refusal) → SymbolAnswered L m (esi p) a → (said a ≡ value 0) ⊎ (said a ≡ refusal 12)
    pub shown : (a : Result ℕ Refusal) → SymbolAnswered L m (esi p) a → (said a ≡ value 0) ↔ Known E qs p
    -- Then those are shown; else the part is empty.
    pub bytes : (memory part : Bor (List ℕ)) → memory.now ≡ m → PartShown L memory part (esi p) → Known E qs p
        → (f : Filling E) → All E qs f → part.now ≡ bytes_of E (f p)
    pub nothing : (memory part : Bor (List ℕ)) → memory.now ≡ m → PartShown L memory part (esi p) → ¬ Known E qs p → part.now ≡ []
    -- Where a filling carries a sender's symbols from this position or an earlier one on, the bytes shown are the sender's.
    pub sender : (memory part : Bor (List ℕ)) → memory.now ≡ m → PartShown L memory part (esi p) → Known E qs p
        → (all : List (List ℕ)) (join offset : ℕ) (f : Filling E) → All E qs f → Carries E join offset all f
        → join ≤ p → p + offset < length all → part.now ≡ get_or all (p + offset) []

  -- Before any base, whatever the ESI: 12, and the part is empty.
  pub record HiddenBefore (e : ℕ) : Type 0 where
    pub answer : (a : Result ℕ Refusal) → SymbolAnswered L m e a → said a ≡ refusal 12
    pub nothing : (memory part : Bor (List ℕ)) → memory.now ≡ m → PartShown L memory part e → part.now ≡ []

  -- Outside the window: 8 from halfway on, else 12, and the part is empty.
  pub record HiddenOutside (base d : ℕ) : Type 0 where
    pub past : d < halfway → (a : Result ℕ Refusal) → SymbolAnswered L m (esi (base + d)) a → said a ≡ refusal 12
    pub behind : halfway ≤ d → (a : Result ℕ Refusal) → SymbolAnswered L m (esi (base + d)) a → said a ≡ refusal 8
    pub nothing : (memory part : Bor (List ℕ)) → memory.now ≡ m → PartShown L memory part (esi (base + d)) → part.now ≡ []

-- Each call of the list, after the calls before it, is answered as the history asks.
abbrev pub Answered : Setting → (flows : List ℕ) → List Step → Type 0
Answered s flows ts =
    (before : List Step) (t : Step) (after : List Step) → ts ≡ before ++ (t ∷ after)
    → Judged s (history s flows before) (read s flows (history s flows before) t) (said t.answer)

-- Demand 3, of the list of calls `ts` that has left the memory m, where these flows are announced.
pub record Demand3 (L : Layout) (s : Setting) (flows : List ℕ) (ts : List Step) (m : List ℕ) : Type 0 where
  -- A packet is accepted exactly when it passes the checks of form, place and coefficients and some filling of the
  -- whole stream, from the joining position on, satisfies it and every packet accepted before; else its call answers
  -- the number of the first check that fails, or 11.
  pub calls : Answered s flows ts
  -- At least one filling satisfies every accepted packet.
  pub consistent : Consistent s.size (history s flows ts)
  -- Before any base the window is empty.
  pub before : base_of s (history s flows ts) ≡ None → (e : ℕ) → HiddenBefore L s m e
  -- A position in the window has its symbol shown exactly when all such fillings hold the same bytes there, and those
  -- are shown.
  pub window : (b : ℕ) → base_of s (history s flows ts) ≡ Some b → (i : ℕ) → i < s.width
      → ShownExactly L s m (history s flows ts) (b + i)
  pub outside : (b : ℕ) → base_of s (history s flows ts) ≡ Some b → (d : ℕ) → s.width ≤ d → d < 2 ^ 32
      → HiddenOutside L s m b d

-- From memory on which opening has just answered 0, with any scheme, E, width and flows, demand 3 holds of every list
-- of packet calls.
abbrev pub EveryList : Layout → Type 0
EveryList L =
    (scheme E w : ℕ) (flows m₀ m : List ℕ) (a : Result ℕ Refusal) → Opened L scheme E w flows m₀ m a → said a ≡ value 0
    → (ts : List Step) → Run L m ts
    → (s : Setting) × (setting_of scheme E w ≡ Some s) × Demand3 L s flows ts (final m ts)
