-- `origins::fill` meets its contract.
use Rattle.words.specs.Words.{arith}
use Rattle.origins.proofs.Filling.{filled_none, filled_more, filled_to}
use Rattle.origins.proofs.fill.Goals as goal

pub loop-i-init : goal.loop-i-init
loop-i-init c = filled_none _ _ _ _ _ _

pub bounds-mem-at : goal.bounds-mem-at
bounds-mem-at c = omega (arith, c.row_of-r.ensures.small, c.row_offset-at.ensures.start, c.loop-i.invariant.only.size)

pub loop-i-preserved : goal.loop-i-preserved
loop-i-preserved c =
    let turn = c.loop-i in
    filled_more _ _ _ c.args.first turn.i _ _ _ _ turn.mem (omega arith) c.row_offset-at.ensures.start
    (omega (arith, c.row_of-r.ensures.is)) (omega (arith, turn.invariant.only.size)) turn.invariant

pub returns : goal.returns
returns c = filled_to (omega arith) c.loop-i.invariant
