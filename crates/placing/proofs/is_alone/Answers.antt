use Rattle.words.specs.Words.{arith, rules}
use Rattle.table.proofs.Marking.{tested}
use Rattle.table.proofs.Offsets.{row_end}
use Rattle.placing.proofs.is_alone.Goals as goal

pub or_all-before-requires : goal.or_all-before-requires
or_all-before-requires c =
    let a = c.args in
    (search rules, omega (arith, row_end a.shape.width a.shape.size a.r (omega arith)))

pub or_all-after-requires : goal.or_all-after-requires
or_all-after-requires c =
    let a = c.args in
    (search rules, omega (arith, row_end a.shape.width a.shape.size a.r (omega arith)))

pub returns : goal.returns
returns c =
    let a = c.args in
    let at = c.row_offset-at in
    tested a.shape.width a.shape.size a.r a.mem.now (omega arith) at.result at.ensures.start
    c.or_all-before.result c.or_all-after.result c.or_all-before.ensures c.or_all-after.ensures
