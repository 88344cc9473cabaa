-- `coefficients::draw_list` meets its contract. The loop's invariant: the bytes before the index are the first coefficients (`Partly`).
use Rattle.coefficients.proofs.Fills.{Partly}
use Rattle.coefficients.proofs.draw_list.Given as goal

abbrev pub invariant-loop-byte : goal.invariant-loop-byte
invariant-loop-byte l = Partly l.scheme l.fn.key.0 l.dt l.out l.state l.draws l.byte-index
