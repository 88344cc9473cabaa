-- `coefficients::nonzero` meets its contract. The loop's invariant: what is still to be drawn gives what was asked.
use Rattle.std.specs.Prelude.{◌≡◌, ◌≤◌, ◌<◌, ◌-◌}
use Rattle.coefficients.specs.Coefficients.{last_zero, nonzero_from}
use Rattle.coefficients.proofs.nonzero.Given as goal

abbrev pub invariant-loop-byte : goal.invariant-loop-byte
invariant-loop-byte l =
    (l.before ≤ l.draws) × (l.draws < l.last) × (nonzero_from last_zero l.before l.initial.state ≡ nonzero_from (l.last - l.draws) l.draws l.state)

abbrev pub decreases-loop-byte : goal.decreases-loop-byte
decreases-loop-byte l = l.last - l.draws
