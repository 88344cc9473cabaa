-- `placing::place_all` meets its contract. The loop: the rows before k have joined the system, and total positions have become known.
use Rattle.std.specs.Prelude.{◌≤◌, ◌-◌}
use Rattle.placing.specs.PlaceSteps.{RowsPlaced}
use Rattle.placing.proofs.place_all.Given as goal

abbrev pub invariant-loop-k : goal.invariant-loop-k
invariant-loop-k l = (l.k ≤ l.kept) × RowsPlaced l.shape.width l.shape.size l.k l.total l.work l.initial.mem l.mem

abbrev pub decreases-loop-k : goal.decreases-loop-k
decreases-loop-k l = l.kept - l.k
