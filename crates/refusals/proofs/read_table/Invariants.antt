-- `refusals::read_table` is safe and ends: each turn reads some bytes.
use Rattle.std.specs.Prelude.{◌-◌, ◌≤◌}
use Rattle.refusals.proofs.read_table.Given as goal

abbrev pub invariant-loop-n : goal.invariant-loop-n
invariant-loop-n g l = l.n ≤ 65536

abbrev pub decreases-loop-n : goal.decreases-loop-n
decreases-loop-n g l = 65536 - l.n
