-- `interpolation::Repair::fill` meets its contract. The loop's invariant: c is the coefficient before i, and those before i are filled in.
use Rattle.std.specs.Prelude.{◌≡◌, ◌-◌}
use Rattle.interpolation.specs.Lagrange.{lagrange}
use Rattle.interpolation.proofs.Filling.{Filled}
use Rattle.interpolation.proofs.Repair.fill.Given as goal

abbrev pub invariant-loop-i : goal.invariant-loop-i
invariant-loop-i l = (l.c.0 ≡ lagrange l.self.k (l.i - 1) l.self.esi) × Filled l.self.k l.self.esi l.out l.i
