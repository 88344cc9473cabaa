-- `placing::place` meets its contract. The loop: the column is clear in the rows before the one that was found, of which count have become known.
use Rattle.std.specs.Prelude.{◌-◌}
use Rattle.placing.proofs.Placing.{reached, Inside, Cleared}
use Rattle.placing.proofs.place.Given as goal

abbrev pub invariant-loop-found : goal.invariant-loop-found
invariant-loop-found l =
    let w = l.shape.width in
    Inside w l.found × Cleared w l.shape.size l.r (reached w l.found) l.count l.row l.initial.mem l.mem

abbrev pub decreases-loop-found : goal.decreases-loop-found
decreases-loop-found l = l.shape.width - reached l.shape.width l.found
