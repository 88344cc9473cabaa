-- Handing out an ADU: what is claimed of the ADU call after every list of packet calls from a fresh receiver.
use Rattle.std.specs.Prelude.{◌≡◌, ◌≤◌, ◌+◌, ◌<◌, ◌++◌, ◌^◌, ◌↔◌, Result, Ok}
use Rattle.words.specs.Words.{ℕ, List, length, Some, true, None, Bool, drop}
use Rattle.wire.specs.declared.Setting.{Setting}
use Rattle.wire.specs.Settings.{setting_of}
use Rattle.wire.specs.Packets.{longest_adu, symbol_count, source_symbols}
use Rattle.wire.specs.Flows.{announced}
use Rattle.starts.specs.Adu.{View, withholds, handing, HandedAs}
use Rattle.history.specs.Symbol.{bytes_of}
use Rattle.wire.specs.Answers.{value, said}
use Rattle.history.specs.History.{Filling, symbols_at, Located, All, Known, Log, base_of, Start, halfway}
use Rattle.receiver.specs.Promises.{Layout, Opened, AduAnswered}
use Rattle.claims.specs.Run.{Step, Run, final, history}
use Rattle.claims.specs.Demand.{esi}
use Rattle.wire.specs.declared.Refusal.{Refusal}

module _ (s : Setting) where
  open s use {size as E, width}

  -- What the accepted packets make known and mark, from the base on: the bytes on which all fillings agree, and the starts.
  pub record Told (qs : List Located) (base : ℕ) (see : View) (marked : ℕ → Bool) : Type 0 where
    pub known : (i : ℕ) → i < width → Known E qs (base + i) → (f : Filling E) → All E qs f → see i ≡ Some (bytes_of E (f (base + i)))
    pub unknown : (i : ℕ) → i < width → ¬ Known E qs (base + i) → see i ≡ None
    pub outside : (i : ℕ) → width ≤ i → see i ≡ None
    pub starts : (i : ℕ) → i ≤ width → (marked i ≡ true) ↔ Start s qs (base + i)

  -- Every filling holds the symbols of the ADU with its flow from the position p on, and the window has them all.
  pub record HoldsAdu (qs : List Located) (base p flow : ℕ) (adu : List ℕ) : Type 0 where
    pub long : length adu ≤ longest_adu
    pub inside : p + symbol_count E (length adu) ≤ base + width
    pub held : (f : Filling E) → All E qs f → symbols_at E f p (symbol_count E (length adu)) ≡ source_symbols flow adu E

-- Of the flows that are announced, of the packets qs that were accepted, of the base, and of the memory m that the list has left.
module _ (L : Layout) (s : Setting) (flows m : List ℕ) (qs : List Located) (base : ℕ) where
  open s use {size as E, width}

  -- The position d past the base.
  pub record HandedExactly (d : ℕ) (see : View) (marked : ℕ → Bool) : Type 0 where
    -- The call's answer and output: behind the base 8, past the window 12, else by what is told, in the order of document 01 and No. 7.
    pub behind : halfway ≤ d → (out out' : List ℕ) (a : Result (ℕ × ℕ) Refusal) → AduAnswered L m (esi (base + d)) out out' a → HandedAs (withholds 8) out out' a
    pub past : width ≤ d → d < halfway → (out out' : List ℕ) (a : Result (ℕ × ℕ) Refusal) → AduAnswered L m (esi (base + d)) out out' a
        → HandedAs (withholds 12) out out' a
    pub order : d < width → (out out' : List ℕ) (a : Result (ℕ × ℕ) Refusal) → AduAnswered L m (esi (base + d)) out out' a
        → HandedAs (handing E width flows (length out) marked see d) out out' a
    -- An ADU is handed out with its flow exactly when the position is marked a start, every filling holds its symbols there, its flow is announced, and
    -- output has room.
    pub handed : d < width → (out out' : List ℕ) (a : Result (ℕ × ℕ) Refusal) → AduAnswered L m (esi (base + d)) out out' a → (flow : ℕ) (adu : List ℕ)
        → ((a ≡ Ok (flow, length adu)) × (out' ≡ adu ++ drop (length adu) out))
        ↔ (Start s qs (base + d) × HoldsAdu s qs base (base + d) flow adu × (announced flows flow ≡ true) × (length adu ≤ length out))

  -- `told` leaves no choice of what is seen, nor of what is marked up to the width, since some filling exists (demand 3).
  pub record IsHandedOut : Type 0 where
    pub see : View
    pub marked : ℕ → Bool
    pub told : Told s qs base see marked
    pub calls : (d : ℕ) → d < 2 ^ 32 → HandedExactly d see marked

-- After the calls of a log: before any base 12, whatever the ESI.
pub record HandingTold (L : Layout) (s : Setting) (flows m : List ℕ) (l : Log) : Type 0 where
  pub before : base_of s l ≡ None → (e : ℕ) (out out' : List ℕ) (a : Result (ℕ × ℕ) Refusal) → AduAnswered L m e out out' a → HandedAs (withholds 12) out out' a
  pub after : (b : ℕ) → base_of s l ≡ Some b → IsHandedOut L s flows m l b

-- From memory on which opening has just answered 0, after every list of packet calls.
abbrev pub HandsOut : Layout → Type 0
HandsOut L =
    (scheme E w : ℕ) (flows m₀ m : List ℕ) (a : Result ℕ Refusal) → Opened L scheme E w flows m₀ m a → said a ≡ value 0
    → (ts : List Step) → Run L m ts
    → (s : Setting) × (setting_of scheme E w ≡ Some s) × HandingTold L s flows (final m ts) (history s flows ts)
