-- `bench::add_by_tables` meets its contract. The loop: the first i elements are those of the result.
use Rattle.memory.proofs.Loop.{Turned}
use Rattle.rows.specs.Rows.{add_scaled}
use Rattle.bench.proofs.add_by_tables.Given as goal

abbrev pub invariant-loop-i : goal.invariant-loop-i
invariant-loop-i l = Turned l.initial.dst (add_scaled l.c l.initial.dst l.src) l.i l.dst
