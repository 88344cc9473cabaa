-- `memory::copy_part` meets its contract.
use Rattle.words.specs.Words.{arith}
use Rattle.memory.proofs.Parts.{put, cut}
use Rattle.memory.proofs.copy_part.Goals as goal

pub returns : goal.returns
returns c =
    let a = c.args in
    cc (put a.a a.n c.copy.new.dst a.mem.now (omega arith) c.copy.auto.dst, cut a.b a.n a.src.now)
