-- `gather::reduce_column` meets its contract.
use Rattle.words.specs.Words.{arith, rules, ◌∙◌, sym}
use Rattle.table.proofs.Offsets.{row_end}
use Rattle.gather.proofs.Reducing.{state_one, zero_if}
use Rattle.gather.proofs.reduce_column.Goals as goal

pub add_part_or-requires : goal.add_part_or-requires
add_part_or-requires c =
    let a = c.args in
    (search rules, omega (arith, c.requires.0.room, row_end a.shape.width a.shape.size a.c (omega arith)))

pub returns-then-factor-eq1 : goal.returns-then-factor-eq1
returns-then-factor-eq1 c =
    let a = c.args in
    let from = c.row_offset-from in
    let at = c.row_offset-at in
    let sum = c.add_part_or in (
      state_one a.shape.width a.shape.size a.k a.c 1 at.result from.result a.mem.now a.work.now _
          at.ensures.start from.ensures.start c.requires.1 (omega arith) (omega arith)
          (sym c.if-factor-eq1.true ∙ c.multiplier-factor.ensures) sum.ensures.0,
      zero_if a.shape.width a.shape.size a.k sum.result at.result sum.new.mem at.ensures.start sum.ensures.1,
    )

pub add_part-requires : goal.add_part-requires
add_part-requires c =
    let a = c.args in
    (search rules, omega (arith, c.requires.0.room, row_end a.shape.width a.shape.size a.c (omega arith)))

pub returns : goal.returns
returns c =
    let a = c.args in
    let from = c.row_offset-from in
    let at = c.row_offset-at in
    let sum = c.add_part in (
      state_one a.shape.width a.shape.size a.k a.c c.multiplier-factor.result at.result from.result a.mem.now a.work.now _
          at.ensures.start from.ensures.start c.requires.1 (omega arith) (omega arith) c.multiplier-factor.ensures sum.ensures,
      λ e. cc,
    )
