-- `lists::double_strip` meets its contract. The loop: the first elements are those of the result.
use Rattle.words.specs.Words.{arith}
use Rattle.memory.proofs.Loop.{turned_all}
use Rattle.rows.proofs.Sums.{length-scaled}
use Rattle.rows.proofs.Turns.{scale_more}
use Rattle.lists.proofs.double_strip.Goals as goal

pub loop-x-preserved : goal.loop-x-preserved
loop-x-preserved c = rw c.double.ensures (scale_more _ (omega arith) c.loop-x.invariant)

pub returns : goal.returns
returns c = turned_all (length-scaled _ _) (omega arith) c.loop-x.invariant
