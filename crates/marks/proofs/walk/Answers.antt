-- `marks::walk` meets its contract.
use Rattle.words.specs.Words.{arith}
use Rattle.marks.proofs.Only.{starts_fits}
use Rattle.marks.proofs.Passing.{walking_none, walking_more, walked}
use Rattle.marks.proofs.walk.Goals as goal

pub loop-i-init : goal.loop-i-init
loop-i-init c = walking_none _ _ _ _ _ c.requires.2

pub step-requires : goal.step-requires
step-requires c = (starts_fits c.requires.0 c.loop-i.invariant.only, omega arith, omega arith)

pub returns-in_default : goal.returns-in_default
returns-in_default c =
    walked _ _ _ _ c.args.shape.width _ _ (omega arith)
    (walking_more _ _ _ _ c.loop-i.i _ _ _ _ c.requires.0.some_width (omega arith) c.loop-i.invariant c.in_default.ensures)

pub loop-i-smaller : goal.loop-i-smaller
loop-i-smaller c = omega (arith, c.in-Some.ensures.later)

pub loop-i-preserved : goal.loop-i-preserved
loop-i-preserved c = walking_more _ _ _ _ c.loop-i.i _ _ _ _ c.requires.0.some_width (omega arith) c.loop-i.invariant c.in-Some.ensures

pub returns : goal.returns
returns c = walked _ _ _ _ c.loop-i.i _ _ (omega arith) c.loop-i.invariant
