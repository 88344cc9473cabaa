-- What the encoder of a block is (document 02, No. 9), and how its memory holds it: a header, then the source symbols one after the other.
use Rattle.std.specs.Prelude.{◌≡◌, ◌≤◌, ◌+◌, ◌<◌, ◌*◌, ◌++◌}
use Rattle.words.specs.Words.{ℕ, List, length, [], Some, get_or}
use Rattle.memory.specs.Part.{part}
use Rattle.wire.specs.Packets.{source_symbols}
use Rattle.rows.specs.Combination.{combination}
use Rattle.interpolation.specs.Lagrange.{lagranges}
use Rattle.blocks.specs.declared.Block.{Block}
use Rattle.blocks.specs.Stored.{block_in, taken_in}

-- An encoder: its block, and the source symbols of the ADUs that it took, in order.
pub record Encoder : Type 0 where
  pub block : Block
  pub symbols : List (List ℕ)

-- One that took nothing.
abbrev pub fresh : Block → Encoder
fresh b = record { block = b; symbols = [] }

-- After taking an ADU of a flow: its symbol is the next. An ADU of at most E - 3 bytes has one.
abbrev pub taken : Encoder → (flow : ℕ) (adu : List ℕ) → Encoder
taken e flow adu = record { block = e.block; symbols = e.symbols ++ source_symbols flow adu e.block.size }

-- The symbol with an ESI: the combination of the source symbols with the coefficients of the ESI.
unfoldable pub symbol_of : Encoder → (esi : ℕ) → List ℕ
symbol_of e esi = combination e.block.size (lagranges e.block.k esi) e.symbols

-- ---- The memory

-- Where source symbol i stands.
abbrev pub symbol_at : Block → (i : ℕ) → ℕ
symbol_at b i = 96 + i * b.size

-- The memory m holds the encoder e.
pub record Holds (m : List ℕ) (e : Encoder) : Type 0 where
  pub header : block_in 3 m ≡ Some e.block
  pub count : taken_in m ≡ length e.symbols
  pub few : length e.symbols ≤ e.block.k
  pub stored : (i : ℕ) → i < length e.symbols → part (symbol_at e.block i) e.block.size m ≡ get_or e.symbols i []
