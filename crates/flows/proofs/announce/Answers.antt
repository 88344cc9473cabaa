-- `flows::announce` meets its contract.
use Rattle.words.specs.Words.{arith}
use Rattle.flows.proofs.Bits.{one_more}
use Rattle.flows.proofs.announce.Goals as goal

pub returns : goal.returns
returns c = one_more c.args.flow c.args.flows.now (omega arith)
