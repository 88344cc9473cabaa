-- A packet's equations in working memory: a header's bytes, then `w + 1` rows laid out as the state's, in order of arrival. Row `k` holds the `k`th
-- equation that was kept, and its first flag the column of its pivot. The state stays as it is until all are known to agree with it.
use Rattle.std.specs.Prelude.{◌≡◌, ◌≤◌, ◌+◌, ◌<◌, ◌%◌}
use Rattle.words.specs.Words.{ℕ, List, length, Some, get_or}
use Rattle.decoder.specs.Bytes.{Coded}
use Rattle.decoder.specs.Model.{Row, State}
use Rattle.decoder.specs.Receiver.{insert_all}
use Rattle.decoder.specs.TableSteps.{Leads}
use Rattle.decoder.specs.Chain.{Chain, place_rows}
use Rattle.table.specs.Window.{row_offset, row, line, equation}

-- Sizes for which working memory has room. Each of its first `kept` rows has a column of the window in its flag.
pub record Works (w E kept : ℕ) (work : List ℕ) : Type 0 where
  pub some_width : 0 < w
  pub wide : w ≤ 255
  pub some_symbol : 4 ≤ E
  pub long : E ≤ 1500
  pub room : row_offset w E (w + 1) ≤ length work
  pub within : kept ≤ w
  pub columns : (k : ℕ) → k < kept → get_or (row w E k work) (w + E) 0 < w

-- The equation that each row of working memory spells over the window from `b` on.
abbrev pub spelled : (w E b : ℕ) → List ℕ → ℕ → Row (Coded E) w
spelled w E b work k = equation w E b (row w E k work)

-- A row's oldest coefficient stands at a position of the window from `b` on, whose column is in the row's flag.
pub record PivotMarked (w E b : ℕ) (l : List ℕ) : Type 0 where
  pub position : ℕ
  pub from : b ≤ position
  pub before : position < b + w
  pub leads : Leads (line w E l) b position
  pub column : get_or l (w + E) 0 ≡ position % w

-- The first `kept` rows are what the system `S` makes of the equations `es`: placed one after the other, they give what `es` give.
pub record Gathered (w E b : ℕ) (S : State (Coded E) w) (work : List ℕ) (kept : ℕ) (es : List (Row (Coded E) w)) : Type 0 where
  pub chain : Chain S (spelled w E b work) kept
  pub marked : (k : ℕ) → k < kept → PivotMarked w E b (row w E k work)
  pub inserted : insert_all es S ≡ Some (place_rows (spelled w E b work) kept S)
