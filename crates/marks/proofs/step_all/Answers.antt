-- `marks::step_all` meets its contract.
use Rattle.words.specs.Words.{arith}
use Rattle.marks.proofs.Only.{starts_fits}
use Rattle.marks.proofs.Passing.{passing-none, passing-more, passed}
use Rattle.marks.proofs.step_all.Goals as goal

pub loop-i-init : goal.loop-i-init
loop-i-init c = passing-none _ _ _ _

pub step-requires : goal.step-requires
step-requires c = (starts_fits c.requires.0 c.loop-i.invariant.only, omega arith, omega arith)

pub loop-i-preserved : goal.loop-i-preserved
loop-i-preserved c = passing-more _ _ _ c.loop-i.i _ _ _ _ c.requires.0.some_width c.loop-i.invariant c.step.ensures

pub returns : goal.returns
returns c = passed _ _ _ _ _ _ (omega arith) c.loop-i.invariant
