-- `tinymt::draw` meets its contract: what `step` and `output` ensure, joined.
use Rattle.tinymt.specs.Generator.{draw_of}
use Rattle.tinymt.proofs.draw.Goals as goal

pub returns : goal.returns
unfolding draw_of
returns c = cc
