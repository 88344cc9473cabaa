-- `marks::set` meets its contract.
use Rattle.words.specs.Words.{arith}
use Rattle.marks.proofs.Marking.{added}
use Rattle.marks.proofs.set.Goals as goal

pub returns : goal.returns
returns c =
    added _ _ _ c.args.i _ _ c.requires.0.some_width (omega arith) c.write.ensures
