-- `marks::write` meets its contract.
use Rattle.words.specs.Words.{arith}
use Rattle.marks.proofs.Marking.{written}
use Rattle.marks.proofs.write.Goals as goal

pub returns : goal.returns
returns c = written _ _ _ _ _ _ _ c.mark_at-at.ensures.0 (omega arith)
