-- `lists::double_strip` meets its contract. The loop: the first elements are those of the result.
use Rattle.memory.proofs.Loop.{Turned}
use Rattle.rows.specs.Rows.{scaled}
use Rattle.lists.proofs.double_strip.Given as goal

abbrev pub invariant-loop-x : goal.invariant-loop-x
invariant-loop-x l = Turned l.initial.strip (scaled 2 l.initial.strip) l.x-index l.strip
