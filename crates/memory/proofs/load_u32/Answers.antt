-- `memory::load_u32` meets its contract.
use Rattle.words.specs.Words.{arith, ap}
use Rattle.memory.specs.Number.{number}
use Rattle.memory.proofs.Parts.{part-four}
use Rattle.memory.proofs.load_u32.Goals as goal

pub returns : goal.returns
returns c =
    let a = c.args in
    omega (arith, c.from_be_bytes.ensures, ap number (part-four a.at a.mem.now (omega arith)))
