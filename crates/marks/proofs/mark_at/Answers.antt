-- `marks::mark_at` meets its contract.
use Rattle.std.specs.Prelude.{◌+◌}
use Rattle.words.specs.Words.{arith, ◌∙◌, ap}
use Rattle.table.proofs.Offsets.{header-long}
use Rattle.marks.proofs.Only.{flag-inside, mark_row, mark_past}
use Rattle.marks.proofs.mark_at.Goals as goal

pub returns-then-i-shape : goal.returns-then-i-shape
returns-then-i-shape c =
    let at = c.row_offset.ensures.start in
    let r = c.row_of-r.ensures in
    let s = c.args.shape in (
      ap (λ x. x + (s.width + s.size + 1)) at ∙ mark_row _ _ _ _ _ c.if-i-shape.true r.is,
      omega (arith, at, flag-inside s.width s.size c.row_of-r.result r.small),
    )

pub returns-else-i-shape : goal.returns-else-i-shape
returns-else-i-shape c = (mark_past _ _ _ _ c.if-i-shape.false, omega (arith, header-long))
