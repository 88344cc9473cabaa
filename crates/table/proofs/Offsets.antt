-- What the sizes of the header and of a row come to. Nothing else sees the numbers.
use Rattle.std.specs.Prelude.{◌≤◌, ◌+◌, ◌<◌}
use Rattle.words.specs.Words.{arith, ℕ, mul-le-mul_right}
use Rattle.memory.proofs.Parts.{row_fits}
use Rattle.table.specs.Window.{header_size, stride, row_offset}

-- The header has the bytes that the marks and the flows take in it.
pub header-long : 64 ≤ header_size
unfolding header_size
header-long = omega arith

-- A row has room for its flags.
pub flags_fit : (w E : ℕ) → w + E + 4 ≤ stride w E
unfolding stride
flags_fit w E = omega arith

-- No row is longer than the longest, and no row begins later than the last of the widest window with the longest symbols.
pub small_stride : (w E : ℕ) → (w ≤ 255) × (E ≤ 1500) → stride w E ≤ 1760
unfolding stride
small_stride w E k = omega arith

pub small_row : (w E r : ℕ) → r ≤ w → (w ≤ 255) × (E ≤ 1500) → row_offset w E r ≤ 450000
unfolding header_size
small_row w E r h k =
    let l : r ≤ 255 = omega arith in
    omega (arith, mul-le-mul_right (stride w E) l, small_stride w E k)

-- A row ends within the rows, and before a later one.
pub row_end : (w E r : ℕ) → r < w → row_offset w E r + stride w E ≤ row_offset w E w
row_end w E r h = omega (arith, row_fits w (stride w E) r h)
