-- `sender::front::write_counts` meets its contract.
use Rattle.words.specs.Words.{arith}
use Rattle.sender.proofs.Heads.{counts_chain}
use Rattle.sender.proofs.front.write_counts.Goals as goal

pub returns : goal.returns
returns c =
    let a = c.args in
    counts_chain a.held a.next a.esi.0 a.mem.now (omega arith) c.store_u16.ensures c.store_u16-2.ensures c.store_u32.ensures
