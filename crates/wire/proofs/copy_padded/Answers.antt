-- `wire::copy_padded` meets its contract.
use Rattle.words.specs.Words.{arith}
use Rattle.wire.proofs.Adui.{copied}
use Rattle.wire.proofs.copy_padded.Goals as goal

pub returns : goal.returns
returns c =
    let a = c.args in
    cc (copied a.at a.from c.min-n.result a.dst.now a.adu.now (omega arith) (omega arith) c.min-n.ensures)
