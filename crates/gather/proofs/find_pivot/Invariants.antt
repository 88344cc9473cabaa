-- `gather::find_pivot` meets its contract. The loops: no coefficient in the rows before, and none in the columns before.
use Rattle.std.specs.Prelude.{◌≤◌, ◌-◌}
use Rattle.table.specs.Window.{row}
use Rattle.gather.proofs.Searching.{Blank, BlankRows}
use Rattle.gather.proofs.find_pivot.Given as goal

abbrev pub invariant-loop-i : goal.invariant-loop-i
invariant-loop-i l = Blank l.shape.width l.first l.i (row l.shape.width l.shape.size l.r l.work)

abbrev pub invariant-rows : goal.invariant-rows
invariant-rows l = (l.from ≤ l.r) × (l.r ≤ l.to) × BlankRows l.shape.width l.shape.size l.first l.from l.r l.work

abbrev pub decreases-rows : goal.decreases-rows
decreases-rows l = l.to - l.r
