-- The packets of a block (RFC 6865, section 5.1, for m = 8). Each has a payload identifier of six bytes: the block number in 24 bits, the ESI in 8, the number of
-- source symbols in 16. It stands after the ADU of a source packet, and before the symbol of a repair packet.
use Rattle.std.specs.Prelude.{◌+◌, ◌%◌, ◌*◌, ◌++◌, ◌/◌}
use Rattle.words.specs.Words.{ℕ, List}
use Rattle.memory.specs.Part.{part}
use Rattle.memory.specs.Number.{number, bytes}
use Rattle.blocks.specs.declared.Block.{Block}
use Rattle.blocks.specs.declared.identifier.Identifier.{Identifier}

-- How an identifier is written.
abbrev pub identifier_bytes : Identifier → List ℕ
identifier_bytes id = bytes 4 (id.block * 256 + id.esi) ++ bytes 2 id.k

-- How it is read, from a place in a packet on.
abbrev pub identifier_at : List ℕ → (at : ℕ) → Identifier
identifier_at p at = record { block = number (part at 4 p) / 256; esi = number (part at 4 p) % 256; k = number (part (at + 4) 2 p) }

-- The identifier of the symbol with an ESI.
abbrev pub identifier_of : Block → (esi : ℕ) → Identifier
identifier_of b esi = record { block = b.number; esi = esi; k = b.k }

-- The source packet of an ADU, and the repair packet of a symbol.
unfoldable pub source_packet : Block → (esi : ℕ) (adu : List ℕ) → List ℕ
source_packet b esi adu = adu ++ identifier_bytes (identifier_of b esi)

unfoldable pub repair_packet : Block → (esi : ℕ) (symbol : List ℕ) → List ℕ
repair_packet b esi symbol = identifier_bytes (identifier_of b esi) ++ symbol
