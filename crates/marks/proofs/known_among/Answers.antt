-- `marks::known_among` meets its contract.
use Rattle.words.specs.Words.{arith}
use Rattle.placing.proofs.Placing.{at_most_one}
use Rattle.marks.proofs.Gaining.{tallied_none, tallied_more, tallied_to}
use Rattle.marks.proofs.known_among.Goals as goal

pub loop-i-init : goal.loop-i-init
loop-i-init c = tallied_none _ _ _ _ _

pub overflow_add-count : goal.overflow_add-count
overflow_add-count c = omega (arith, c.loop-i.invariant.most, c.from-count.ensures, at_most_one c.one_known.result)

pub loop-i-preserved : goal.loop-i-preserved
loop-i-preserved c = rw c.from-count.ensures (tallied_more _ _ _ _ c.loop-i.i _ _ _ c.loop-i.invariant c.one_known.ensures)

pub returns : goal.returns
returns c = tallied_to (omega arith) c.loop-i.invariant
