-- Where the receiver's memory keeps the marks: that of a position of the window in the second flag of its row, that of the position just past the
-- window in byte 10 of the header.
use Rattle.std.specs.Prelude.{◌≡◌, ◌≤◌, ◌+◌, ◌<◌, ◌%◌, ◌≢◌}
use Rattle.words.specs.Words.{ℕ, List, length, get_or, cond, ltb}
use Rattle.table.specs.Window.{row_offset}
use Rattle.starts.specs.Starts.{Starts}

-- Where the mark of the row r, and of the i-th position from that of the row `base` on, stands.
abbrev pub flag_at : (w E r : ℕ) → ℕ
flag_at w E r = row_offset w E r + (w + E + 1)

abbrev pub mark_at : (w E oldest i : ℕ) → ℕ
mark_at w E oldest i = cond (ltb i w) (flag_at w E ((oldest + i) % w)) 10

-- The byte there says whether the position is marked.
abbrev pub marked : (w E oldest : ℕ) → List ℕ → Starts
marked w E oldest m i = ltb 0 (get_or m (mark_at w E oldest i) 0)

-- The memory has these marks.
abbrev pub Marks : (w E oldest : ℕ) → List ℕ → Starts → Type 0
Marks w E oldest m M = (i : ℕ) → i ≤ w → marked w E oldest m i ≡ M i

-- A byte that is no mark.
pub record NoMark (w E k : ℕ) : Type 0 where
  pub header : k ≢ 10
  pub rows : (r : ℕ) → r < w → k ≢ flag_at w E r

-- Nothing but marks has changed.
pub record OnlyMarks (w E : ℕ) (m m' : List ℕ) : Type 0 where
  pub size : length m' ≡ length m
  pub others : (k : ℕ) → NoMark w E k → get_or m' k 0 ≡ get_or m k 0

-- And whether an ADU ends past the window is noted in byte 11 of the header. Nothing but marks and that note has changed.
abbrev pub noted_in : List ℕ → ℕ
noted_in m = get_or m 11 0

pub record OnlyStarts (w E : ℕ) (m m' : List ℕ) : Type 0 where
  pub size : length m' ≡ length m
  pub others : (k : ℕ) → NoMark w E k → k ≢ 11 → get_or m' k 0 ≡ get_or m k 0
