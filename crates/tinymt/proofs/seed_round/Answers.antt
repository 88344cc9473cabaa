-- `tinymt::seed_round` meets its contract: the code computes the definition's own expression.
use Rattle.tinymt.specs.Generator.{seed_round}
use Rattle.tinymt.proofs.seed_round.Goals as goal

pub returns : goal.returns
unfolding seed_round
returns c = cc
