-- `rows::add_or` meets its contract. The loop: the first i elements are those of the result, and any is zero only where these are.
use Rattle.memory.proofs.Loop.{Turned}
use Rattle.rows.specs.Rows.{add_scaled}
use Rattle.rows.proofs.Turns.{ZeroBefore}
use Rattle.rows.proofs.add_or.Given as goal

abbrev pub invariant-loop-i : goal.invariant-loop-i
invariant-loop-i l = Turned l.initial.dst (add_scaled 1 l.initial.dst l.src) l.i l.dst × ZeroBefore l.any l.i (add_scaled 1 l.initial.dst l.src)
