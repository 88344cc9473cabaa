-- A row's bytes in memory, `w` coefficients by the remainder of their position and then `E` bytes of symbol, as a line of the table.
use Rattle.std.specs.Prelude.{◌<◌, ◌%◌}
use Rattle.words.specs.Words.{ℕ, List, suc, zero, get_or}
use Rattle.decoder.specs.Tuples.{Tuple, Byte}
use Rattle.decoder.specs.Bytes.{byte, Coded}
use Rattle.decoder.specs.Table.{Line}

-- The `n` bytes from `o` on, as a symbol.
abbrev pub symbol_cut_at : (n o : ℕ) → List ℕ → Tuple Byte n
symbol_cut_at zero o s = tt
symbol_cut_at (suc n) o s = (byte (get_or s o 0), symbol_cut_at n (suc o) s)

-- The line that a row's bytes hold.
abbrev pub line_of : (w E : ℕ) → List ℕ → Line (Coded E)
line_of w E s = record { cells = λ j. byte (get_or s (j % w) 0); sym = symbol_cut_at E w s }

-- Every element is below 256.
abbrev pub Small : List ℕ → Type 0
Small s = (i : ℕ) → get_or s i 0 < 256
