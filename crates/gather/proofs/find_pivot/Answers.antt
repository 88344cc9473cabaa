-- `gather::find_pivot` meets its contract. The loops: no coefficient in the rows before, and none in the columns before.
use Rattle.std.specs.Prelude.{◌≡◌, ◌%◌, ◌+◌}
use Rattle.words.specs.Words.{arith, ◌∙◌, ap, sym, get_or, refl}
use Rattle.table.specs.Window.{row}
use Rattle.gather.proofs.Searching.{blank_none, blank_more, blank_all, rows_none, rows_more, read_cell, leading_here, leading_none}
use Rattle.gather.proofs.find_pivot.Goals as goal
use Rattle.gather.proofs.find_pivot.Goals.{After-row_after-column}

-- What the code reads there.
read : (c : After-row_after-column)
    → get_or c.args.work.now (c.row_offset-at.result + c.row_after-column.result) 0
    ≡ get_or (row c.args.shape.width c.args.shape.size c.rows.r c.args.work.now) ((c.args.first + c.loop-i.i) % c.args.shape.width) 0
read c =
    let a = c.args in
    read_cell a.shape.width a.shape.size c.rows.r _ c.row_after-column.result a.work.now c.row_offset-at.ensures.start c.row_after-column.ensures.small
    ∙ ap (λ k. get_or (row a.shape.width a.shape.size c.rows.r a.work.now) k 0) c.row_after-column.ensures.is

pub rows-init : goal.rows-init
rows-init c = (omega arith, omega arith, rows_none _ _ _ _ _ _ refl)

pub loop-i-init : goal.loop-i-init
loop-i-init c = blank_none _ _ _

pub loop-i-preserved : goal.loop-i-preserved
loop-i-preserved c =
    blank_more _ _ _ _ c.loop-i.invariant (sym (read (goal.at.loop-i-preserved c).After-row_after-column) ∙ c.if-work-at-ne0.false)

pub rows-preserved-then-or_all-eq0 : goal.rows-preserved-then-or_all-eq0
rows-preserved-then-or_all-eq0 c =
    let z = leading_none _ _ _ _ c.row_offset-at.result _ c.row_offset-at.ensures.start (omega arith) (c.or_all.ensures.0 c.if-or_all-eq0.true) in
    (omega arith, omega arith, rows_more _ _ _ _ _ _ c.rows.invariant.2 z)

pub rows-preserved : goal.rows-preserved
rows-preserved c =
    (omega arith, omega arith, rows_more _ _ _ _ _ _ c.rows.invariant.2 (blank_all _ _ c.loop-i.i _ (omega arith) c.loop-i.invariant))

pub returns-then-r-to : goal.returns-then-r-to
returns-then-r-to c = λ k g l. c.rows.invariant.2 k g (omega arith)

pub returns-then-work-at-ne0 : goal.returns-then-work-at-ne0
returns-then-work-at-ne0 c =
    let turn = c.loop-i in
    let found = c.row_after-column.ensures.is in (
      turn.i,
      omega arith,
      found,
      c.rows.invariant.0,
      omega arith,
      c.rows.invariant.2,
      leading_here _ _ _ _ _ (omega arith) found
          (λ z. c.if-work-at-ne0.true (read_cell _ _ _ _ _ _ c.row_offset-at.ensures.start c.row_after-column.ensures.small ∙ z)) turn.invariant,
    )
