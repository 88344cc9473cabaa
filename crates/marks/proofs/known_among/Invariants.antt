-- `marks::known_among` meets its contract.
use Rattle.marks.specs.MarkSteps.{Tallied}
use Rattle.marks.proofs.known_among.Given as goal

abbrev pub invariant-loop-i : goal.invariant-loop-i
invariant-loop-i l = Tallied l.shape.width l.shape.size l.shape.oldest l.first l.i l.count l.mem
