-- `sums::block` meets its contract.
use Rattle.words.specs.Words.{arith}
use Rattle.strips.proofs.Ways.{most_some}
use Rattle.sums.proofs.block.Goals as goal

pub returns : goal.returns
returns c =
    let some = most_some c.args.way in
    (omega (arith, c.min.ensures, c.most_rows.ensures), omega (arith, c.min.ensures, c.most_rows.ensures), omega (arith, c.min.ensures, c.most_rows.ensures))
