-- `printing::put_text` meets its contract.
use Rattle.words.specs.Words.{arith}
use Rattle.printing.proofs.Laws.{put_copy}
use Rattle.printing.proofs.put_text.Goals as goal

pub returns : goal.returns
returns c =
    let a = c.args in
    rw c.copy_from_slice.ensures.after (put_copy a.at a.text.now a.out.now (omega arith))
