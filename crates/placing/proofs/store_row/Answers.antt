use Rattle.words.specs.Words.{arith, rules}
use Rattle.placing.proofs.Placing.{stored_copy}
use Rattle.table.proofs.Offsets.{row_end}
use Rattle.placing.proofs.store_row.Goals as goal

pub copy_part-requires : goal.copy_part-requires
copy_part-requires c =
    let a = c.args in
    (omega (arith, row_end a.shape.width a.shape.size a.r (omega arith)), search rules)

pub returns : goal.returns
returns c =
    stored_copy _ _ _ _ _ _ _ _ _ c.requires.0 (omega arith) (omega arith) c.row_offset-at.ensures.start c.copy_part.ensures c.mark.ensures
