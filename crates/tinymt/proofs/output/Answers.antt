-- `tinymt::output` meets its contract: what the callees ensure, joined.
use Rattle.tinymt.specs.Generator.{temper}
use Rattle.tinymt.proofs.output.Goals as goal

pub returns : goal.returns
unfolding temper
returns c = cc
