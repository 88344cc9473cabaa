-- `tinymt::mix` meets its contract: the code computes the definition's own expression, and a word XOR itself shifted is a word, so the product fits 64 bits.
use Rattle.std.specs.Prelude.{◌<◌, ◌^◌, ◌/◌}
use Rattle.words.specs.Words.{arith, refl, bit_xor, xor_lt}
use Rattle.std.proofs.Common.{lt_of_le_of_lt}
use lib.Pow.{shr_le}
use Rattle.tinymt.specs.Generator.{mixed}
use Rattle.tinymt.proofs.mix.Goals as goal
use Rattle.tinymt.proofs.mix.Goals.{Start}

-- a word, XOR itself shifted, is a word
added-lt : (c : Start) → bit_xor c.args.p (c.args.p / 2 ^ 30) < 2 ^ 32
added-lt c = xor_lt 32 _ _ c.ranges.p.fits (lt_of_le_of_lt (shr_le _ 30) c.ranges.p.fits)

pub overflow_cast-result-2 : goal.overflow_cast-result-2
overflow_cast-result-2 c = omega (arith, added-lt (goal.at.overflow_cast-result-2 c).Start)

pub overflow_mul-result : goal.overflow_mul-result
overflow_mul-result c = omega (arith, added-lt (goal.at.overflow_mul-result c).Start)

pub overflow_add-result : goal.overflow_add-result
overflow_add-result c = omega (arith, added-lt (goal.at.overflow_add-result c).Start)

pub returns : goal.returns
unfolding mixed
returns c = refl
