-- Handing out an ADU: F and L of an ADUI, and the ADU call at a position of the window, with its refusals in their order (document 01; document 02, No. 7).
use Rattle.std.specs.Prelude.{◌≡◌, ◌≤◌, ◌+◌, ◌∷◌, ◌++◌, ◌&&◌, Result, Ok, Err}
use Rattle.words.specs.Words.{ℕ, List, length, [], Some, suc, true, zero, None, get_or, false, Bool, Option, drop, leb, eqb}
use Rattle.memory.specs.Part.{part}
use Rattle.memory.specs.Number.{number}
use Rattle.wire.specs.Numbers.{number_of}
use Rattle.wire.specs.Packets.{longest_adu, symbol_count}
use Rattle.wire.specs.Flows.{announced}
use Rattle.wire.specs.declared.Refusal.{Refusal}

-- F and L of an ADUI stand in its first three bytes.
abbrev pub flow_in : List ℕ → ℕ
flow_in x = get_or x 0 0

abbrev pub length_in : List ℕ → ℕ
length_in x = number (part 1 2 x)

-- How many symbols of E bytes an ADUI needs that begins so.
abbrev pub needs : (E : ℕ) → List ℕ → ℕ
needs E x = symbol_count E (length_in x)

-- Every byte is zero.
abbrev pub all_zero : List ℕ → Bool
all_zero [] = true
all_zero (b ∷ l) = eqb b 0 && all_zero l

-- What is known of the window: the bytes of the symbol at its i-th position, none where it is not known or i is past the window.
abbrev pub View : Type 0
View = ℕ → Option (List ℕ)

-- The bytes of n symbols from the i-th on, one after the other, where all are known.
abbrev pub before : Option (List ℕ) → Option (List ℕ) → Option (List ℕ)
before None r = None
before (Some v) None = None
before (Some v) (Some l) = Some (v ++ l)

unfoldable pub joint : View → (i n : ℕ) → Option (List ℕ)
joint see i zero = Some []
joint see i (suc n) = before (see i) (joint see (suc i) n)

-- What the ADU call comes to: an ADU with its flow, or the number of a refusal.
pub data Handing : Type 0 where
  hands : (flow : ℕ) (adu : List ℕ) → Handing
  withholds : ℕ → Handing

-- A check, and what comes after it.
unfoldable pub need : Bool → ℕ → Handing → Handing
need true n r = r
need false n r = withholds n

module _ (E width : ℕ) (flows : List ℕ) (room : ℕ) where
  -- A whole ADUI: padding not zero (14), a flow that is not announced (16), output too short (2).
  abbrev pub unpack : Option (List ℕ) → Handing
  unpack None = withholds 12
  unpack (Some x) =
      let L = length_in x in
      need (all_zero (drop (3 + L) x)) 14 (need (announced flows (flow_in x)) 16 (need (leb L room) 2 (hands (flow_in x) (part 3 L x))))

  -- Its first symbol: not known (12), too many symbols (14), another not known (12).
  abbrev pub begin : View → (d : ℕ) → Option (List ℕ) → Handing
  begin see d None = withholds 12
  begin see d (Some v) = need (leb (needs E v) width) 14 (unpack (joint see d (needs E v)))

  -- The ADU call for the d-th position of the window, with `room` bytes of output: no start (13), then the ADUI that begins there.
  unfoldable pub handing : (marked : ℕ → Bool) → View → (d : ℕ) → Handing
  handing marked see d = need (marked d) 13 (begin see d (see d))

-- The output afterwards, by what the call returned. An ADU was written as it is handed out, and the output past it is as it was; a refusal leaves it.
abbrev pub HandedAs : Handing → (out out' : List ℕ) → Result (ℕ × ℕ) Refusal → Type 0
HandedAs (hands flow adu) out out' r = (r ≡ Ok (flow, length adu)) × (out' ≡ adu ++ drop (length adu) out)
HandedAs (withholds n) out out' (Ok (flow, L)) = ⊥
HandedAs (withholds n) out out' (Err x) = (number_of x ≡ n) × (out' ≡ out)

-- The same without a word of what was written: on any memory. L is a number of two bytes.
abbrev pub Leaves : (out out' : List ℕ) → Result (ℕ × ℕ) Refusal → Type 0
Leaves out out' (Ok (flow, L)) = (L ≤ longest_adu) × (L ≤ length out) × (length out' ≡ length out) × (drop L out' ≡ drop L out)
Leaves out out' (Err x) = out' ≡ out
