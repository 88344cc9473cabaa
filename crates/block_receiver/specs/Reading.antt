-- The packets of a block that is recovered (document 02, No. 9): what stands before 11, in its order, and what a packet says that passes.
use Rattle.std.specs.Prelude.{◌+◌, ◌-◌, ◌&&◌, Result, Ok, Err}
use Rattle.words.specs.Words.{ℕ, List, length, Bool, cond, leb, ltb, eqb}
use Rattle.memory.specs.Part.{part}
use Rattle.wire.specs.Numbers.{number_of}
use Rattle.wire.specs.Packets.{symbol_at}
use Rattle.wire.specs.declared.Refusal.TheVariants as refusals
use Rattle.history.specs.History.{Call, source-call, repair-call, working_size}
use Rattle.recovery.specs.Block.{Packet}
use Rattle.blocks.specs.declared.Block.{Block}
use Rattle.blocks.specs.declared.identifier.Identifier.{Identifier}
use Rattle.blocks.specs.Block.{setting_for}
use Rattle.blocks.specs.Identifiers.{identifier_at}
use Rattle.wire.specs.declared.Refusal.{Refusal}

-- An identifier names the block; and a source symbol of it, or a repair symbol of it.
abbrev pub names : Block → Identifier → Bool
names b id = eqb id.block b.number && eqb id.k b.k

abbrev pub names_source : Block → Identifier → Bool
names_source b id = names b id && ltb id.esi b.k

abbrev pub names_repair : Block → Identifier → Bool
names_repair b id = names b id && (leb b.k id.esi && ltb id.esi b.total)

-- A source packet: a whole identifier after the ADU (5), of a source symbol of the block (18), and an ADU of at most E - 3 bytes (4). Its ESI.
unfoldable pub source_check : Block → List ℕ → Result ℕ Refusal
source_check b p =
    let id = identifier_at p (length p - 6) in
    cond (leb 6 (length p)) (cond (names_source b id) (cond (leb (length p - 3) b.size) (Ok id.esi) (Err refusals.Long)) (Err refusals.Block)) (Err refusals.Form)

-- A repair packet: an identifier and E bytes (5), of a repair symbol of the block (18). Its ESI.
unfoldable pub repair_check : Block → List ℕ → Result ℕ Refusal
repair_check b p =
    let id = identifier_at p 0 in
    cond (eqb (length p) (6 + b.size)) (cond (names_repair b id) (Ok id.esi) (Err refusals.Block)) (Err refusals.Form)

-- What the checks that stand before 11 make of a call: the number of the first that fails, or the packet.
pub data Reading : Type 0 where
  fails : ℕ → Reading
  located : Packet → Reading

abbrev pub read_by : (symbol : List ℕ) → Result ℕ Refusal → Reading
read_by v (Ok e) = located (record { esi = e; symbol = v })
read_by v (Err r) = fails (number_of r)

-- The symbol of a source packet is the first of its ADUI, with the flow that came beside it; that of a repair packet stands after the identifier.
abbrev pub read_packet : Block → Call → Reading
read_packet b (source-call flow p) = read_by (symbol_at flow (part 0 (length p - 6) p) b.size 0) (source_check b p)
read_packet b (repair-call p) = read_by (part 6 b.size p) (repair_check b p)

-- A call that is lent `room` bytes of working memory: too few are refused (2) before the packet is read.
abbrev pub reading : Block → (room : ℕ) → Call → Reading
reading b room c = cond (leb (working_size (setting_for b)) room) (read_packet b c) (fails 2)
