-- `marks::walk_all` meets its contract.
use Rattle.std.specs.Prelude.{◌≤◌, ◌+◌, ◌<◌}
use Rattle.marks.specs.MarkSteps.{Followed}
use Rattle.marks.proofs.walk_all.Given as goal

abbrev pub invariant-loop-i : goal.invariant-loop-i
invariant-loop-i l = Followed l.shape.width l.shape.size l.shape.oldest (λ k. (l.first ≤ k) × (k < l.first + l.i)) l.initial.mem l.mem
