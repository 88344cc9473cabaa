-- Contracts of inner functions: a reader need not believe these.
-- A column is cleared in the rows in use, by a working row `l`, and the working row becomes the row of that column.
use Rattle.std.specs.Prelude.{◌≡◌, ◌≤◌, ◌+◌, ◌<◌, ◌*◌, ◌≢◌}
use Rattle.std.specs.Int.{from_bool}
use Rattle.words.specs.Words.{ℕ, List, Bool, Option, Some, None, length, true, get_or, false}
use Rattle.decoder.specs.Bytes.{byte, Coded}
use Rattle.decoder.specs.Model.{State}
use Rattle.decoder.specs.TableSteps.{add_line, total}
use Rattle.decoder.specs.Chain.{Chain, place_rows}
use Rattle.table.specs.Window.{row_offset, row, flag, in_use, line, Flagged, Flags, Window, Kept}
use Rattle.table.specs.Packet.{spelled, PivotMarked}
use Rattle.table.specs.RowSteps.{known-flag, flagged, Tested}

-- How many rows have the flag of a known position.
abbrev pub known_flags : (w E : ℕ) → List ℕ → ℕ
known_flags w E m = total (known-flag w E m) w

-- The row `r`, in use, has its first flag; `alone` tells whether it has no other coefficient.
pub record RowMarked (w E r : ℕ) (alone : Bool) (m m' : List ℕ) : Type 0 where
  pub tested : Tested w E r alone m
  pub bytes : m' ≡ flagged w E r (1 + from_bool alone) m

-- No row but `q` has changed, and `n` is 1 if its position has become known, else 0.
pub record Changed (w E q n : ℕ) (m m' : List ℕ) : Type 0 where
  pub kept : Kept w E m m'
  pub rest : (p : ℕ) → p < w → p ≢ q → row w E p m' ≡ row w E p m
  pub most : n ≤ 1

-- The column `r` of the row `q`, if that is in use, has been cleared by the working row `l`.
pub record ClearedRow (w E r q n : ℕ) (l m m' : List ℕ) : Type 0 where
  pub changed : Changed w E q n m m'
  pub used : in_use w E (row w E q m') ≡ in_use w E (row w E q m)
  pub sum : in_use w E (row w E q m) ≡ true
      → line w E (row w E q m') ≡ add_line (byte (get_or (row w E q m) r 0)) (line w E l) (line w E (row w E q m))
  pub flags : (q ≡ r → in_use w E (row w E q m) ≡ false) → Flagged w E q (row w E q m)
      → Flagged w E q (row w E q m') × (n + known-flag w E m q ≡ known-flag w E m' q)

-- The row `q` is the first from `from` on that has a coefficient in the column `r`, or `w` if none has.
pub record FirstWith (w E r from q : ℕ) (m : List ℕ) : Type 0 where
  pub least : from ≤ q
  pub most : q ≤ w
  pub zeros : (j : ℕ) → from ≤ j → j < q → get_or m (row_offset w E j + r) 0 ≡ 0
  pub here : q < w → get_or m (row_offset w E q + r) 0 ≢ 0

-- That row, or none.
abbrev pub NextWith : (w E r from : ℕ) → Option ℕ → List ℕ → Type 0
NextWith w E r from (Some q) m = (q < w) × FirstWith w E r from q m
NextWith w E r from None m = FirstWith w E r from w m

-- The working row `l` has become the row `r`, in use.
pub record Stored (w E r n : ℕ) (l m m' : List ℕ) : Type 0 where
  pub changed : Changed w E r n m m'
  pub used : in_use w E (row w E r m') ≡ true
  pub new : line w E (row w E r m') ≡ line w E l
  pub flags : Flagged w E r (row w E r m') × (n ≡ known-flag w E m' r)

-- The working row `l` has become the row `r`, and its column has been cleared in the other rows in use: `n` positions have become known.
pub record RowPlaced (w E r n : ℕ) (l m m' : List ℕ) : Type 0 where
  pub kept : Kept w E m m'
  pub most : n ≤ w + 1
  pub used : in_use w E (row w E r m') ≡ true
  pub new : line w E (row w E r m') ≡ line w E l
  pub others : (q : ℕ) → q < w → q ≢ r → in_use w E (row w E q m') ≡ in_use w E (row w E q m)
  pub sum : (q : ℕ) → q < w → q ≢ r → in_use w E (row w E q m) ≡ true
      → line w E (row w E q m') ≡ add_line (byte (get_or (row w E q m) r 0)) (line w E l) (line w E (row w E q m))
  pub flags : in_use w E (row w E r m) ≡ false → Flags w E m → Flags w E m' × (n + known_flags w E m ≡ known_flags w E m')

-- Working memory has the row `k`, and a column of the window in its first flag.
pub record KeptRow (w E k : ℕ) (work : List ℕ) : Type 0 where
  pub room : row_offset w E w ≤ length work
  pub within : k < w
  pub column : flag w E (row w E k work) < w

-- The row `k` of working memory has become the row of the column in its first flag.
abbrev pub PlacedKept : (w E k n : ℕ) (work m m' : List ℕ) → Type 0
PlacedKept w E k n work m m' = RowPlaced w E (flag w E (row w E k work)) n (row w E k work) m m'

-- The first `k` rows of working memory have joined the system, in order: `n` positions have become known.
pub record RowsPlaced (w E k n : ℕ) (work m m' : List ℕ) : Type 0 where
  pub kept : Kept w E m m'
  pub most : n ≤ k * 256
  pub joins : (b : ℕ) (S : State (Coded E) w) → Window w E m b S → Chain S (spelled w E b work) k
      → ((j : ℕ) → j < k → PivotMarked w E b (row w E j work))
      → Window w E m' b (place_rows (spelled w E b work) k S) × (n + known_flags w E m ≡ known_flags w E m')
