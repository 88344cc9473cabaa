-- `replay::end_unended` meets its contract.
use Rattle.replay.proofs.Finishing.{nothing_left, line_left_lem}
use Rattle.replay.proofs.end_unended.Goals as goal

pub returns-then-p-eq0 : goal.returns-then-p-eq0
returns-then-p-eq0 c = nothing_left _ _ _ _ c.if-p-eq0.true

pub returns : goal.returns
returns c = line_left_lem _ _ _ _ _ _ _ c.if-p-eq0.false
    c.end_line.ensures
