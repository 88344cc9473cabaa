-- `tinymt::start` meets its contract. The first loop's invariant: the state is that after the rounds before i; the second's: that after k steps.
use Rattle.std.specs.Prelude.{◌≡◌, ◌≤◌, ◌-◌}
use Rattle.tinymt.specs.Generator.{steps, seeded}
use Rattle.tinymt.proofs.start.Given as goal

abbrev pub invariant-loop-i : goal.invariant-loop-i
invariant-loop-i l = (1 ≤ l.i) × (l.i ≤ 8) × (l.s ≡ seeded l.key (l.i - 1))

abbrev pub decreases-loop-i : goal.decreases-loop-i
decreases-loop-i l = 8 - l.i

abbrev pub invariant-loop-k : goal.invariant-loop-k
invariant-loop-k l = (l.k ≤ 8) × (l.s ≡ steps l.k (seeded l.key 7))

abbrev pub decreases-loop-k : goal.decreases-loop-k
decreases-loop-k l = 8 - l.k
