-- `placing::move_on` meets its contract. The loop: the window has moved on by i.
use Rattle.words.specs.Words.{arith}
use Rattle.table.proofs.Rows.{fits_kept}
use Rattle.placing.proofs.Moving.{moved_none, moved_more, moved_all}
use Rattle.placing.proofs.move_on.Goals as goal

pub loop-i-init : goal.loop-i-init
loop-i-init c = moved_none _ _ _ _

pub set_flag-requires : goal.set_flag-requires
set_flag-requires c = (fits_kept c.requires.0 c.loop-i.invariant.kept, c.row_of.ensures.small)

pub loop-i-preserved : goal.loop-i-preserved
loop-i-preserved c = moved_more _ _ _ c.loop-i.i _ _ _ _ c.requires.0 c.loop-i.invariant c.row_of.ensures.is c.set_flag.ensures

pub returns : goal.returns
returns c = moved_all _ _ _ c.loop-i.i _ _ _ c.requires.0.some_width (omega arith) c.loop-i.invariant
