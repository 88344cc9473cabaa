-- `lists::add_strip` meets its contract. The loop: the first i bytes are those of the sum.
use Rattle.memory.proofs.Loop.{Turned}
use Rattle.rows.specs.Rows.{add_scaled}
use Rattle.lists.proofs.add_strip.Given as goal

abbrev pub invariant-loop-i : goal.invariant-loop-i
invariant-loop-i l = Turned l.acc (add_scaled 1 l.acc l.strip) l.i l.x-items
