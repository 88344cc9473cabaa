-- Computed from the definitions of the calls, of a block of E 4, k 2 and total 4 with the number 0x010203: refusals in their order, and at their limits;
-- the source packets of the ADU 0x41 of flow 1 and the ADU 0x42 of flow 2, and the repair packets of these. A computation of the two repair packets by
-- Vandermonde's matrices, as RFC 5510 has it, gives the same.
use Rattle.std.specs.Prelude.{◌≡◌, ◌∷◌}
use Rattle.words.specs.Words.{ℕ, List, refl, []}
use Rattle.field.specs.Gf256.{product}
use Rattle.field.specs.Powers.{power, inverse, inverse_below}
use Rattle.rows.specs.Combination.{combination}
use Rattle.wire.specs.Packets.{symbol_count, adui, source_symbols}
use Rattle.interpolation.specs.Lagrange.{lagranges, lagrange}
use Rattle.blocks.specs.Block.{has_values, block_of}
use Rattle.blocks.specs.Identifiers.{source_packet, repair_packet}
use Rattle.block_encoder.specs.State.{Encoder, fresh, symbol_of}
use Rattle.block_encoder.specs.Calls.{Outcome, refused, done, opening, adding, repairing}

-- What a call gives: the number of a refusal, or the packet that it writes.
pub data Line : Type 0 where
  refusal : ℕ → Line
  packet : List ℕ → Line

abbrev line : Outcome → Line
line (refused n) = refusal n
line (done p e) = packet p

-- The encoder after a call.
abbrev after : Outcome → Encoder
after (refused n) = fresh (record { size = 0; k = 0; total = 0; number = 0 })
after (done p e) = e

-- Opened; with the first ADU; with both.
abbrev opened : Encoder
opened = after (opening 4 2 4 0x010203 118)

abbrev one : Encoder
one = after (adding opened 1 (0x41 ∷ []) 7)

abbrev two : Encoder
two = after (adding one 2 (0x42 ∷ []) 7)

-- 1 before 18 before 2; each of the numbers past its limit; a byte of memory too few.
pub opening-refused :
    line (opening 3 0 4 0x010203 0) ∷ line (opening 1501 2 4 0x010203 0) ∷ line (opening 4 0 4 0x010203 0)
    ∷ line (opening 4 0 4 0x010203 118) ∷ line (opening 4 2 1 0x010203 118) ∷ line (opening 4 2 256 0x010203 118) ∷ line (opening 4 2 4 16777216 118)
    ∷ line (opening 4 2 4 0x010203 117) ∷ line (opening 1500 255 255 16777215 448895) ∷ []
    ≡ refusal 1 ∷ refusal 1 ∷ refusal 18
    ∷ refusal 18 ∷ refusal 18 ∷ refusal 18 ∷ refusal 18
    ∷ refusal 2 ∷ refusal 2 ∷ []
unfolding opening block_of has_values
opening-refused = refl

-- The numbers at their limits, and just the memory.
pub opening-taken :
    line (opening 4 2 4 0x010203 118) ∷ line (opening 4 1 1 0 106) ∷ line (opening 1500 255 255 16777215 448896) ∷ []
    ≡ packet [] ∷ packet [] ∷ packet [] ∷ []
unfolding opening block_of has_values
opening-taken = refl

-- 2 before 18 before 4: an ADU of E - 2 bytes past the k-th, into a byte too few, and into enough; then as the first and as the k-th; one of E - 3 past the
-- k-th; and output of a byte too few alone.
pub adding-refused :
    line (adding two 1 (1 ∷ 2 ∷ []) 7) ∷ line (adding two 1 (1 ∷ 2 ∷ []) 8) ∷ line (adding opened 1 (1 ∷ 2 ∷ []) 8) ∷ line (adding one 1 (1 ∷ 2 ∷ []) 8)
    ∷ line (adding two 1 (0x43 ∷ []) 7) ∷ line (adding one 2 (0x42 ∷ []) 6) ∷ []
    ≡ refusal 2 ∷ refusal 18 ∷ refusal 4 ∷ refusal 4
    ∷ refusal 18 ∷ refusal 2 ∷ []
unfolding opening adding block_of has_values source_symbols symbol_count
adding-refused = refl

-- The source packets of both ADUs, of E - 3 bytes, the second of them the k-th; and of an ADU of no byte.
pub adding-taken :
    line (adding opened 1 (0x41 ∷ []) 7) ∷ line (adding one 2 (0x42 ∷ []) 7) ∷ line (adding opened 1 [] 6) ∷ []
    ≡ packet (0x41 ∷ 1 ∷ 2 ∷ 3 ∷ 0 ∷ 0 ∷ 2 ∷ []) ∷ packet (0x42 ∷ 1 ∷ 2 ∷ 3 ∷ 1 ∷ 0 ∷ 2 ∷ []) ∷ packet (1 ∷ 2 ∷ 3 ∷ 0 ∷ 0 ∷ 2 ∷ []) ∷ []
unfolding opening adding block_of has_values source_packet source_symbols symbol_count
adding-taken = refl

-- 2 before 18 before 7: ESI k - 1 before the k-th ADU, into a byte too few, and into enough; ESI k before the k-th ADU. After it: ESI k - 1 and ESI total.
pub repairing-refused :
    line (repairing one 1 9) ∷ line (repairing one 1 10) ∷ line (repairing one 4 10) ∷ line (repairing one 2 10) ∷ line (repairing opened 2 10)
    ∷ line (repairing two 1 10) ∷ line (repairing two 4 10) ∷ line (repairing two 2 9) ∷ []
    ≡ refusal 2 ∷ refusal 18 ∷ refusal 18 ∷ refusal 7 ∷ refusal 7
    ∷ refusal 18 ∷ refusal 18 ∷ refusal 2 ∷ []
unfolding opening adding repairing block_of has_values source_symbols symbol_count
repairing-refused = refl

-- The repair packets, with ESI k and ESI total - 1.
pub repairing-taken :
    line (repairing two 2 10) ∷ line (repairing two 3 10) ∷ []
    ≡ packet (1 ∷ 2 ∷ 3 ∷ 2 ∷ 0 ∷ 2 ∷ 4 ∷ 0 ∷ 1 ∷ 0x44 ∷ []) ∷ packet (1 ∷ 2 ∷ 3 ∷ 3 ∷ 0 ∷ 2 ∷ 8 ∷ 0 ∷ 1 ∷ 0x48 ∷ []) ∷ []
unfolding opening adding repairing block_of has_values repair_packet symbol_of source_symbols adui symbol_count combination lagranges lagrange power inverse
    inverse_below product
repairing-taken = refl
