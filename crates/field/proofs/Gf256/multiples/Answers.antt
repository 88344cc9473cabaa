-- `field::Gf256::multiples` meets its contract: the multiples of 2^e are the powers from e on.
use Rattle.words.specs.Words.{refl}
use Rattle.field.specs.Gf256.{product}
use Rattle.field.specs.Tables.{doublings}
use Rattle.field.proofs.Linear.{eight_powers}
use Rattle.field.proofs.Gf256.multiples.Goals as goal

pub invariant_of-result : goal.invariant_of-result
unfolding doublings product
invariant_of-result c = refl

pub invariant_of-result-2 : goal.invariant_of-result-2
invariant_of-result-2 c =
    rw (
      c.power.ensures,
      c.power-2.ensures,
      c.power-3.ensures,
      c.power-4.ensures,
      c.power-5.ensures,
      c.power-6.ensures,
      c.power-7.ensures,
      c.power-8.ensures,
    ) (eight_powers c.logarithm-e.result)
