-- Contracts of inner functions: a reader need not believe these.
use Rattle.std.specs.Prelude.{◌≡◌, ◌≤◌, ◌+◌, ◌-◌, ◌%◌, ◌≢◌, Result, Ok, Err}
use Rattle.words.specs.Words.{ℕ, List, length, Some, None, Option, cond, ltb}
use Rattle.memory.specs.Part.{part, splice}
use Rattle.wire.specs.declared.Setting.{Setting}
use Rattle.wire.specs.Numbers.{number_of}
use Rattle.wire.specs.Packets.{zeros}
use Rattle.wire.specs.Stored.{setting_bytes}
use Rattle.table.specs.declared.Shape.{Shape}
use Rattle.holding.specs.declared.Header.{Header}
use Rattle.history.specs.History.{memory_size}
use Rattle.history.specs.Symbol.{Symbol, bytes_of}
use Rattle.history.specs.Model.{State, shows, hides, finding}
use Rattle.origins.specs.Origins.{heard_in}
use Rattle.holding.specs.Header.{header_in}
use Rattle.holding.specs.Layout.{Holds, symbol_start}
use Rattle.wire.specs.declared.Refusal.TheVariants as refusals
use Rattle.history.specs.History as history
use Rattle.wire.specs.declared.Refusal.{Refusal}
use Rattle.holding.specs.declared.Spot.{Spot}

-- The shape of the window that a header tells of.
abbrev pub shape_of : Header → Shape
shape_of h = record { width = h.setting.width; size = h.setting.size; oldest = h.oldest }

-- A side, in the code's words.
abbrev pub side_found : history.Side → Option ℕ
side_found history.behind = None
side_found (history.ahead d) = Some d

-- Where a position stands by its side: behind the base (8), past the window (12), or in it.
abbrev pub stand_on : Header → history.Side → Result (Shape × ℕ) Refusal
stand_on h history.behind = Err refusals.Behind
stand_on h (history.ahead d) = cond (ltb d h.setting.width) (Ok (shape_of h, d)) (Err refusals.Unknown)

-- Where the position with the ESI e stands by the header: without one 3, before any base 12.
abbrev pub stand_of : (e : ℕ) → Option Header → Result (Shape × ℕ) Refusal
stand_of e None = Err refusals.Unopened
stand_of e (Some h) = cond h.joined (stand_on h (history.side_of h.esi.0 e)) (Err refusals.Unknown)

-- The memory with a receiver that has no base: its setting, and zeros over all the rest that it needs.
unfoldable pub fresh_memory : Setting → List ℕ → List ℕ
fresh_memory s m = splice 8 (zeros (memory_size s - 8)) (splice 0 (setting_bytes 2 s) m)

-- Of a state that the memory holds, a spot is where the symbol stands, and nowhere is why it is not shown.
abbrev pub SpottedFor : (m : List ℕ) (e : ℕ) (s : Setting) → State s → Result Spot Refusal → Type 0
SpottedFor m e s t (Ok spot) =
    (p : ℕ) × (v : Symbol s.size) × (finding s t e ≡ shows p v) × (bytes_of s.size v ≡ part spot.at spot.size m) × (spot.at ≡ symbol_start s p)
    × (spot.size ≡ s.size) × (spot.heard ≡ heard_in s.width s.size m (p % s.width))
SpottedFor m e s t (Err x) = finding s t e ≡ hides (number_of x)

-- Of any memory with a header, a spot lies in it.
abbrev pub InBounds : List ℕ → Header → Result Spot Refusal → Type 0
InBounds m h (Ok spot) = (spot.size ≡ h.setting.size) × (spot.at + spot.size ≤ length m)
InBounds m h (Err x) = number_of x ≢ 3

pub record Spotted (m : List ℕ) (e : ℕ) (f : Result Spot Refusal) : Type 0 where
  pub unopened : header_in m ≡ None → f ≡ Err refusals.Unopened
  pub lies : (h : Header) → header_in m ≡ Some h → InBounds m h f
  pub told : (s : Setting) (t : State s) → Holds m s t → SpottedFor m e s t f
