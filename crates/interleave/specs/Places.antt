-- The place of a symbol in a grid of D rows by L columns (document 02, No. 8): rows, columns and places count from 0.
use Rattle.std.specs.Prelude.{◌+◌, ◌*◌}
use Rattle.words.specs.Words.{ℕ}

-- the place of the symbol in row r and column c, taken row by row; and sent column by column
abbrev pub taken_at : (L r c : ℕ) → ℕ
taken_at L r c = r * L + c

abbrev pub sent_at : (D r c : ℕ) → ℕ
sent_at D r c = c * D + r
