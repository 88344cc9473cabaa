-- `interpolation::Repair::first` meets its contract. The loop's invariant: the factors before m are multiplied.
use Rattle.std.specs.Prelude.{◌≡◌}
use Rattle.interpolation.specs.Lagrange.{lagrange}
use Rattle.interpolation.proofs.Repair.first.Given as goal

abbrev pub invariant-loop-m : goal.invariant-loop-m
invariant-loop-m l = l.c.0 ≡ lagrange l.m 0 l.self.esi
