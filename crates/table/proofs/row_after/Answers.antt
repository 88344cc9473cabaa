-- `table::row_after` meets its contract.
use Rattle.words.specs.Words.{arith, ◌∙◌, sym, mod-eq_of_lt}
use native.Mathlib.Nat.{mod-eq-sub-mod}
use Rattle.table.proofs.row_after.Goals as goal

pub returns-then-r-shape : goal.returns-then-r-shape
returns-then-r-shape c = record { is = sym (mod-eq_of_lt c.if-r-shape.true); small = c.if-r-shape.true }

pub returns-else-r-shape : goal.returns-else-r-shape
returns-else-r-shape c = record { is = sym (mod-eq-sub-mod c.if-r-shape.false ∙ mod-eq_of_lt (omega arith)); small = omega arith }
