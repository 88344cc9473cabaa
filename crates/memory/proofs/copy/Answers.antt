-- `memory::copy` meets its contract. The loop: the first i elements are those of the result.
use Rattle.words.specs.Words.{arith, refl}
use Rattle.memory.proofs.Loop.{turned_more, turned_all}
use Rattle.memory.proofs.copy.Goals as goal

pub loop-i-preserved : goal.loop-i-preserved
loop-i-preserved c = turned_more (omega arith) (omega arith) c.loop-i.invariant refl

pub returns : goal.returns
returns c = turned_all (omega arith) (omega arith) c.loop-i.invariant
