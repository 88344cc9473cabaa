-- What each call of an encoder comes to (document 02, No. 9): the refusals in their order, else the packet that is written and the encoder after it. Refusal 3
-- comes before all of these.
use Rattle.std.specs.Prelude.{◌+◌, ◌&&◌, Result, Ok, Err}
use Rattle.words.specs.Words.{ℕ, List, length, [], Bool, cond, leb, ltb}
use Rattle.wire.specs.Numbers.{number_of}
use Rattle.history.specs.History.{memory_size}
use Rattle.blocks.specs.Block.{block_of, setting_for}
use Rattle.blocks.specs.Identifiers.{source_packet, repair_packet}
use Rattle.block_encoder.specs.State.{Encoder, fresh, taken, symbol_of}
use Rattle.wire.specs.declared.Refusal.{Refusal}
use Rattle.blocks.specs.declared.Block.{Block}

-- What a call comes to: the number of a refusal; or the packet written, if any, and the encoder after it.
pub data Outcome : Type 0 where
  refused : ℕ → Outcome
  done : List ℕ → Encoder → Outcome

-- What follows where the test holds, else the refusal n.
abbrev pub unless : Bool → ℕ → Outcome → Outcome
unless t n o = cond t o (refused n)

-- Opening on `room` bytes of memory: 1 or 18, then 2.
abbrev pub opening_with : Result Block Refusal → (room : ℕ) → Outcome
opening_with (Err r) room = refused (number_of r)
opening_with (Ok b) room = unless (leb (memory_size (setting_for b)) room) 2 (done [] (fresh b))

unfoldable pub opening : (E k total number room : ℕ) → Outcome
opening E k total number room = opening_with (block_of E k total number) room

-- Adding an ADU of a flow, with `room` bytes of output: 2, 18 past the k-th, 4 for one over E - 3 bytes.
unfoldable pub adding : Encoder → (flow : ℕ) (adu : List ℕ) (room : ℕ) → Outcome
adding e flow adu room =
    unless (leb (length adu + 6) room) 2
    (unless (ltb (length e.symbols) e.block.k) 18
    (unless (leb (3 + length adu) e.block.size) 4
    (done (source_packet e.block (length e.symbols) adu) (taken e flow adu))))

-- Making the repair packet with an ESI, with `room` bytes of output: 2, 18 for an ESI that is none of a repair symbol, 7 before the k-th ADU.
unfoldable pub repairing : Encoder → (esi room : ℕ) → Outcome
repairing e esi room =
    unless (leb (e.block.size + 6) room) 2
    (unless (leb e.block.k esi && ltb esi e.block.total) 18
    (unless (leb e.block.k (length e.symbols)) 7
    (done (repair_packet e.block esi (symbol_of e esi)) e)))
