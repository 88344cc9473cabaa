use Rattle.words.specs.Words.{rules}
use Rattle.table.proofs.Rows.{fits_kept}
use Rattle.placing.proofs.Joining.{committed}
use Rattle.placing.proofs.commit.Goals as goal
use Rattle.placing.proofs.commit.Goals.{After-move_on}

pub place_all-requires : goal.place_all-requires
place_all-requires c =
    (fits_kept c.requires.0 c.move_on.ensures.kept, c.requires.2)

pub returns : goal.returns
returns c =
    let a = c.args in
    let moved = c.move_on in
    let joined = c.place_all in
    committed a.shape.width a.shape.size a.shape.oldest a.rise a.kept joined.result
    a.work.now a.mem.now moved.new.mem joined.new.mem c.requires.0
    (λ i. search rules) (λ i. (c.type_inv.mem i).fits) moved.ensures joined.ensures
