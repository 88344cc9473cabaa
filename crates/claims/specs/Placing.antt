-- The place of a symbol: what is claimed of the call for it after every list of packet calls from a fresh receiver.
use Rattle.std.specs.Borrow.{Bor}
use Rattle.std.specs.Prelude.{◌≡◌, ◌≤◌, ◌+◌, ◌<◌, ◌^◌, Result}
use Rattle.words.specs.Words.{ℕ, List, Some, None}
use Rattle.memory.specs.Part.{part, LiesAt}
use Rattle.wire.specs.declared.Setting.{Setting}
use Rattle.wire.specs.Settings.{setting_of}
use Rattle.history.specs.Symbol.{bytes_of}
use Rattle.wire.specs.Answers.{value, refusal, said}
use Rattle.history.specs.History.{Filling, Located, All, Known, Log, base_of, halfway}
use Rattle.receiver.specs.Promises.{Layout, Opened, PartShown, PlaceAnswered}
use Rattle.receiver.specs.Layout.{receiver_layout}
use Rattle.claims.specs.Run.{Step, Run, final, history}
use Rattle.claims.specs.AnyMemory.{OfReceiver}
use Rattle.claims.specs.Demand.{esi}
use Rattle.wire.specs.declared.Refusal.{Refusal}

-- After the packets `qs` were accepted, when the receiver's memory is m: of whatever the call may answer by its promise.
module _ (L : Layout) (s : Setting) (m : List ℕ) (qs : List Located) where
  open s use {size as E, width}

  -- A position in the window: where it is known, the E bytes at the answer are those that every filling holds there; else the call answers 12.
  pub record PlacedExactly (p : ℕ) : Type 0 where
    pub known : (a : Result ℕ Refusal) → PlaceAnswered L m (esi p) a → Known E qs p
        → (at : ℕ) × (said a ≡ value at) × ((f : Filling E) → All E qs f → part at E m ≡ bytes_of E (f p))
    pub unknown : (a : Result ℕ Refusal) → PlaceAnswered L m (esi p) a → ¬ Known E qs p → said a ≡ refusal 12

  -- Past the window 12, from halfway on 8.
  pub record Placed (base : ℕ) : Type 0 where
    pub window : (i : ℕ) → i < width → PlacedExactly (base + i)
    pub past : (d : ℕ) → width ≤ d → d < halfway → (a : Result ℕ Refusal) → PlaceAnswered L m (esi (base + d)) a → said a ≡ refusal 12
    pub behind : (d : ℕ) → halfway ≤ d → d < 2 ^ 32 → (a : Result ℕ Refusal) → PlaceAnswered L m (esi (base + d)) a → said a ≡ refusal 8

-- After the calls of a log: before any base 12, whatever the ESI.
pub record PlaceTold (L : Layout) (s : Setting) (m : List ℕ) (l : Log) : Type 0 where
  pub before : base_of s l ≡ None → (e : ℕ) (a : Result ℕ Refusal) → PlaceAnswered L m e a → said a ≡ refusal 12
  pub after : (b : ℕ) → base_of s l ≡ Some b → Placed L s m l b

-- From memory on which opening has just answered 0, after every list of packet calls.
abbrev pub EveryPlace : Layout → Type 0
EveryPlace L =
    (scheme E w : ℕ) (flows m₀ m : List ℕ) (a : Result ℕ Refusal) → Opened L scheme E w flows m₀ m a → said a ≡ value 0
    → (ts : List Step) → Run L m ts
    → (s : Setting) × (setting_of scheme E w ≡ Some s) × PlaceTold L s (final m ts) (history s flows ts)

-- On a receiver's memory the part that shows a symbol is the E bytes at that place.
abbrev pub PartPlaced : Type 0
PartPlaced =
    (E width : ℕ) (m part : Bor (List ℕ)) → OfReceiver E width m.now → (e : ℕ) → PartShown receiver_layout m part e
    → (a : Result ℕ Refusal) → PlaceAnswered receiver_layout m.now e a → (at : ℕ) → said a ≡ value at → LiesAt part m at E
