-- `marks::step_all` meets its contract.
use Rattle.marks.proofs.Passing.{Passing}
use Rattle.marks.proofs.step_all.Given as goal

abbrev pub invariant-loop-i : goal.invariant-loop-i
invariant-loop-i l = Passing l.shape.width l.shape.size l.shape.oldest l.i l.initial.mem l.mem
