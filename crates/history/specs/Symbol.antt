-- Symbols of E bytes.
use Rattle.words.specs.Words.{ℕ, List}
use Rattle.decoder.specs.Tuples.{Byte, Tuple, bytes-of}
use Rattle.decoder.specs.Stretch.{symbol_cut_at}

-- E bytes.
abbrev pub Symbol : ℕ → Type 0
Symbol E = Tuple Byte E

-- The bytes of a symbol, and the symbol whose bytes stand in a list.
abbrev pub bytes_of : (E : ℕ) → Symbol E → List ℕ
bytes_of E v = bytes-of E v

abbrev pub symbol_of : (E : ℕ) → List ℕ → Symbol E
symbol_of E l = symbol_cut_at E 0 l
