-- The window's equations in lent memory: a header, then `w` rows, each of `w` coefficients, `E` bytes of symbol and some flags.
-- Row and column of a position are its remainder by `w`. A row's first flag: 0 no row, 1 a row, 2 a row with no coefficient but its pivot's.
use Rattle.std.specs.Prelude.{◌≡◌, ◌≤◌, ◌+◌, ◌<◌, ◌%◌, ◌*◌, ◌≢◌, ◌↔◌}
use Rattle.words.specs.Words.{ℕ, List, length, true, get_or, Bool, drop, take, ltb}
use Rattle.memory.specs.Part.{part}
use Rattle.decoder.specs.Bytes.{Coded}
use Rattle.decoder.specs.Model.{Row, State}
use Rattle.decoder.specs.Table.{Line, Table, read, view, Echelon}
use Rattle.decoder.specs.Stretch.{line_of}

-- How many bytes the header has, and a row, with its flags.
unfoldable pub header_size : ℕ
header_size = 96

unfoldable pub stride : ℕ → ℕ → ℕ
stride w E = w + E + 4

-- Where row `r` begins.
abbrev pub row_offset : ℕ → ℕ → ℕ → ℕ
row_offset w E r = header_size + r * stride w E

-- The bytes of row `r`.
abbrev pub row : ℕ → ℕ → ℕ → List ℕ → List ℕ
row w E r m = part (row_offset w E r) (stride w E) m

-- What the bytes of a row say: its first flag, whether it is in use, and its coefficients and symbol.
abbrev pub flag : ℕ → ℕ → List ℕ → ℕ
flag w E l = get_or l (w + E) 0

abbrev pub in_use : ℕ → ℕ → List ℕ → Bool
in_use w E l = ltb 0 (flag w E l)

abbrev pub line : (w E : ℕ) → List ℕ → Line (Coded E)
line w E l = line_of w E l

-- The memory's rows by position.
abbrev pub table : (w E : ℕ) → List ℕ → Table (Coded E)
table w E m = record { has = λ p. in_use w E (row w E (p % w) m); line = λ p. line w E (row w E (p % w) m) }

-- The equation that a working row spells over the window from `b` on.
abbrev pub equation : (w E b : ℕ) → List ℕ → Row (Coded E) w
equation w E b l = read (line w E l) w b

-- The row with pivot column `r` has no other coefficient.
abbrev pub Alone : (w r : ℕ) → List ℕ → Type 0
Alone w r l = (j : ℕ) → j < w → j ≢ r → get_or l j 0 ≡ 0

-- The first flag of the row `r` is 2 just where the row is in use and has no other coefficient; and so it is in every row.
abbrev pub Flagged : (w E r : ℕ) → List ℕ → Type 0
Flagged w E r l = (flag w E l ≡ 2) ↔ ((in_use w E l ≡ true) × Alone w r l)

abbrev pub Flags : (w E : ℕ) → List ℕ → Type 0
Flags w E m = (r : ℕ) → r < w → Flagged w E r (row w E r m)

-- The memory holds the system `S` for the window from `b` on.
pub record Window (w E : ℕ) (m : List ℕ) (b : ℕ) (S : State (Coded E) w) : Type 0 where
  pub echelon : Echelon (table w E m) b w
  pub reads : view (table w E m) w b ≡ S
  pub flags : Flags w E m

-- Sizes for which the memory has room.
pub record Fits (w E : ℕ) (m : List ℕ) : Type 0 where
  pub some_width : 0 < w
  pub wide : w ≤ 255
  pub some_symbol : 4 ≤ E
  pub long : E ≤ 1500
  pub room : row_offset w E w ≤ length m

-- Nothing but the rows has changed, and of their flags only the first.
pub record Kept (w E : ℕ) (m m' : List ℕ) : Type 0 where
  pub size : length m' ≡ length m
  pub header : take header_size m' ≡ take header_size m
  pub past : drop (row_offset w E w) m' ≡ drop (row_offset w E w) m
  pub flags : (r k : ℕ) → r < w → w + E < k → k < stride w E → get_or m' (row_offset w E r + k) 0 ≡ get_or m (row_offset w E r + k) 0
