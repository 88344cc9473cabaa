-- `marks::walk` meets its contract.
use Rattle.std.specs.Prelude.{◌-◌}
use Rattle.marks.proofs.Passing.{Walking}
use Rattle.marks.proofs.walk.Given as goal

abbrev pub invariant-loop-i : goal.invariant-loop-i
invariant-loop-i l = Walking l.shape.width l.shape.size l.shape.oldest l.from l.i l.initial.mem l.mem

abbrev pub decreases-loop-i : goal.decreases-loop-i
decreases-loop-i l = l.shape.width - l.i
