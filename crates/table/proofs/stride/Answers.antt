-- `table::stride` meets its contract.
use Rattle.words.specs.Words.{arith}
use Rattle.table.specs.Window.{stride}
use Rattle.table.proofs.stride.Goals as goal

pub returns : goal.returns
unfolding stride
returns c = omega arith
