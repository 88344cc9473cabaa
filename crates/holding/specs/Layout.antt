-- How the receiver's memory holds a state: a header of 96 bytes, which keeps the flows, then the window's rows (crate `table`), then a byte for each row
-- (crate `origins`).
-- The claims hold of every layout: a reader of them need not believe this one.
use Rattle.std.specs.Prelude.{◌≡◌, ◌+◌, ◌%◌, ◌^◌}
use Rattle.words.specs.Words.{ℕ, List, Some, true, None, false}
use Rattle.wire.specs.declared.Setting.{Setting}
use Rattle.wire.specs.Flows.{flows_in}
use Rattle.decoder.specs.Bytes.{Coded}
use Rattle.decoder.specs.Model.{Rref}
use Rattle.starts.specs.Starts.{Starts, seen}
use Rattle.starts.specs.Settled.{Settled}
use Rattle.holding.specs.declared.Header.{Header}
use Rattle.history.specs.Model.{Joined, State, Origins}
use Rattle.holding.specs.Header.{header_in}
use Rattle.decoder.specs.Receiver as decoder
use Rattle.table.specs.Window as window
use Rattle.marks.specs.Marks as marks
use Rattle.origins.specs.Origins as origins

-- The header of a receiver that has a base: row and ESI of a position are its remainders by the width and by 2^32; and of any.
abbrev pub header_from : (s : Setting) → Joined s → Header
header_from s t = record { setting = s; joined = true; oldest = t.base % s.width; esi = record { 0 = t.base % 2 ^ 32 } }

abbrev pub header_of : (s : Setting) → State s → Header
header_of s None = record { setting = s; joined = false; oldest = 0; esi = record { 0 = 0 } }
header_of s (Some t) = header_from s t

-- The memory m has the rows of a receiver that has a base; before any base it has none, wherever the base will be.
pub record Stands (m : List ℕ) (s : Setting) (t : Joined s) : Type 0 where
  pub reduced : Rref t.window
  pub rows : window.Window s.width s.size m t.base t.window

abbrev pub Rows : (m : List ℕ) (s : Setting) → State s → Type 0
Rows m s None = (b : ℕ) → window.Window s.width s.size m b (decoder.empty (Coded s.size) s.width)
Rows m s (Some t) = Stands m s t

-- The memory m holds the state t of a receiver opened with s.
pub record Holds (m : List ℕ) (s : Setting) (t : State s) : Type 0 where
  pub header : header_in m ≡ Some (header_of s t)
  pub rows : Rows m s t

-- And keeps the flows that the receiver announces.
pub record HoldsWith (m : List ℕ) (s : Setting) (flows : List ℕ) (t : State s) : Type 0 where
  pub holds : Holds m s t
  pub kept : flows_in m ≡ flows

-- It marks these positions as starts, and so that a pass through the window would add none; before any base, wherever the base will be.
pub record MarksFrom (m : List ℕ) (s : Setting) (t : Joined s) (M : Starts) : Type 0 where
  pub bytes : marks.Marks s.width s.size (t.base % s.width) m M
  pub settled : Settled s.size s.width (seen s.size s.width t.window) (marks.noted_in m) M

abbrev pub Marks : (m : List ℕ) (s : Setting) → State s → Starts → Type 0
Marks m s None M = (b : ℕ) → marks.Marks s.width s.size b m M
Marks m s (Some t) M = MarksFrom m s t M

-- It says which positions are heard; before any base, wherever the base will be.
abbrev pub Hears : (m : List ℕ) (s : Setting) → State s → Origins → Type 0
Hears m s None H = (b : ℕ) → origins.Hears s.width s.size b m H
Hears m s (Some t) H = origins.Hears s.width s.size t.base m H

-- Where the symbol at a position starts: after the coefficients of its row.
abbrev pub symbol_start : Setting → ℕ → ℕ
symbol_start s p = window.row_offset s.width s.size (p % s.width) + s.width
