-- `coefficients::fill_lists` meets its contract. The loop's invariant: the lists before i stand in the output (`Listed`).
use Rattle.coefficients.proofs.Fills.{Listed}
use Rattle.coefficients.proofs.fill_lists.Given as goal

abbrev pub invariant-loop-i : goal.invariant-loop-i
invariant-loop-i l = Listed l.scheme l.dt l.n l.initial.key.0 l.count l.initial.out l.out l.key.0 l.draws l.i
