-- `marks::walk_all` meets its contract.
use Rattle.words.specs.Words.{arith}
use Rattle.marks.proofs.Only.{starts_fits}
use Rattle.marks.proofs.Passing.{followed_none, followed_more, followed_to}
use Rattle.marks.proofs.walk_all.Goals as goal

pub loop-i-init : goal.loop-i-init
loop-i-init c = followed_none _ _ _ _ _ (λ k h. omega (arith, h.0, h.1))

pub walk-requires : goal.walk-requires
walk-requires c = (starts_fits c.requires.0 c.loop-i.invariant.only, omega arith, omega arith)

pub loop-i-preserved : goal.loop-i-preserved
loop-i-preserved c = followed_more _ _ _ _ c.loop-i.i _ _ _ c.requires.0.some_width c.loop-i.invariant c.walk.ensures

pub returns : goal.returns
returns c = followed_to _ _ _ _ _ _ _ _ (omega arith) c.loop-i.invariant
