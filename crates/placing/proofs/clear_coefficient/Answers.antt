use Rattle.words.specs.Words.{arith, rules}
use Rattle.placing.proofs.Placing.{cleared_zero, cleared_unused, cleared_row}
use Rattle.table.proofs.Offsets.{row_end}
use Rattle.placing.proofs.clear_coefficient.Goals as goal
use Rattle.placing.proofs.clear_coefficient.Goals.{After-row_offset-at, then-c-eq0-via-then-c-eq0, then-c-eq0-via-else-c-eq0+then-mem-at-eq0}

pub add_part-requires : goal.add_part-requires
add_part-requires c =
    let a = c.args in
    (omega (arith, row_end a.shape.width a.shape.size a.q (omega arith)), search rules)

pub returns-then-c-eq0 : goal.returns-then-c-eq0
returns-then-c-eq0 c =
    let a = c.args in
    let at = c.row_offset-at in
    elim c.then-c-eq0.branch [
      | then-c-eq0-via-then-c-eq0 w ↦ cleared_zero a.shape.width a.shape.size a.r a.q a.row.now a.mem.now at.result at.ensures.start
          (omega (arith, c.requires.0.some_symbol)) (omega arith) w.if-c-eq0.true
      | then-c-eq0-via-else-c-eq0+then-mem-at-eq0 w ↦
          cleared_unused a.shape.width a.shape.size a.r a.q a.row.now a.mem.now at.result at.ensures.start w.if-mem-at-eq0.true
    ]

pub returns : goal.returns
returns c =
    let a = c.args in
    let at = c.row_offset-at in
    cleared_row a.shape.width a.shape.size a.r a.q _ a.row.now a.mem.now c.add_part.new.mem _
    c.requires.0 (omega arith) (omega arith) (omega arith)
    (λ i. ((goal.at.returns c).After-row_offset-at.type_inv.mem i).fits)
    (λ i. (c.type_inv.row i).fits)
    at.result at.ensures.start c.if-c-eq0.false c.if-mem-at-eq0.false
    c.add_part.ensures c.mark.ensures
