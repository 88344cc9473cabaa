-- `placing::next_with` meets its contract. The loop: the rows from `from` on and before q have no coefficient in the column.
use Rattle.placing.proofs.Placing.{Passed}
use Rattle.placing.proofs.next_with.Given as goal

abbrev pub invariant-loop-q : goal.invariant-loop-q
invariant-loop-q l = Passed l.shape.width l.shape.size l.r l.from l.q l.mem
