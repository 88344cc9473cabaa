-- `memory::copy` meets its contract. The loop: the first i elements are those of the result.
use Rattle.memory.proofs.Loop.{Turned}
use Rattle.memory.proofs.copy.Given as goal

abbrev pub invariant-loop-i : goal.invariant-loop-i
invariant-loop-i l = Turned l.initial.dst l.src l.i l.dst
