-- `marks::drop_first` meets its contract.
use Rattle.marks.specs.MarkSteps.{Dropped}
use Rattle.marks.proofs.drop_first.Given as goal

abbrev pub invariant-loop-i : goal.invariant-loop-i
invariant-loop-i l = Dropped l.shape.width l.shape.size l.shape.oldest l.i l.initial.mem l.mem
