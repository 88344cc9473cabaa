-- What the calls that change the receiver's memory, and the one that looks a position up, promise. Each holds for every window that the
-- memory holds: `b` is the window's oldest position, `oldest` the row of it.
use Rattle.std.specs.Prelude.{◌≡◌, ◌≤◌, ◌+◌, ◌<◌, ◌%◌, ◌*◌}
use Rattle.words.specs.Words.{ℕ, List, Some, true, None, false, Bool}
use Rattle.decoder.specs.Bytes.{Coded}
use Rattle.decoder.specs.Model.{Row, State, Rref, known}
use Rattle.decoder.specs.Receiver.{advance_by, insert_all, newly}
use Rattle.table.specs.Window.{row, line, Window, Kept}
use Rattle.table.specs.Packet.{Gathered}

-- The window has moved on by `rise` positions.
pub record RowsMoved (w E oldest rise : ℕ) (m m' : List ℕ) : Type 0 where
  pub kept : Kept w E m m'
  pub moves : (b : ℕ) (S : State (Coded E) w) → b % w ≡ oldest → Window w E m b S → Window w E m' (b + rise) (advance_by rise S)

-- Whether the symbol of the position in row `r` is known, and then it is the row's.
abbrev pub KnownAt : (w E r : ℕ) → Bool → List ℕ → Type 0
KnownAt w E r true m = (b i : ℕ) (S : State (Coded E) w) → i < w → (b + i) % w ≡ r → Window w E m b S → known S i ≡ Some (line w E (row w E r m)).sym
KnownAt w E r false m = (b i : ℕ) (S : State (Coded E) w) → i < w → (b + i) % w ≡ r → Window w E m b S → known S i ≡ None

-- The window has moved on by `rise` positions, and the rows that working memory keeps of the equations `es` have joined it:
-- the memory holds what the model says of `es`, and `count` positions have become known, no more than 256 for a row on any memory.
pub record Committed (w E oldest rise kept count : ℕ) (work m m' : List ℕ) : Type 0 where
  pub unchanged : Kept w E m m'
  pub most : count ≤ kept * 256
  pub outcome : (b : ℕ) (S : State (Coded E) w) (es : List (Row (Coded E) w)) → b % w ≡ oldest → Window w E m b S → Rref S
      → Gathered w E (b + rise) (advance_by rise S) work kept es
      → (T : State (Coded E) w) × (insert_all es (advance_by rise S) ≡ Some T) × Window w E m' (b + rise) T
      × (count ≡ newly (record { base = b; window = S }) (record { base = b + rise; window = T }))
