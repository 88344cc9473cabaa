-- `placing::move_on` meets its contract. The loop: the window has moved on by i.
use Rattle.placing.specs.Place.{RowsMoved}
use Rattle.placing.proofs.move_on.Given as goal

abbrev pub invariant-loop-i : goal.invariant-loop-i
invariant-loop-i l = RowsMoved l.shape.width l.shape.size l.shape.oldest l.i l.initial.mem l.mem
