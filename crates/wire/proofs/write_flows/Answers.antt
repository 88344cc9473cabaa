-- `wire::write_flows` meets its contract.
use Rattle.words.specs.Words.{arith}
use Rattle.memory.proofs.Parts.{put}
use Rattle.wire.proofs.write_flows.Goals as goal

pub returns : goal.returns
returns c =
    let a = c.args in
    (omega arith, cc (put 32 32 a.flows.now a.mem.now (omega arith) (omega arith)))
