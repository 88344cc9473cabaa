-- `rows::scale` meets its contract. The loop: the first i elements are those of the result.
use Rattle.memory.proofs.Loop.{Turned}
use Rattle.rows.specs.Rows.{scaled}
use Rattle.rows.proofs.scale.Given as goal

abbrev pub invariant-loop-x : goal.invariant-loop-x
invariant-loop-x l = Turned l.initial.row (scaled l.m l.initial.row) l.x-index l.row
