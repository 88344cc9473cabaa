-- `holding::front::memory_size` meets its contract.
use Rattle.words.specs.Words.{arith}
use Rattle.table.specs.Window.{header_size, stride}
use Rattle.holding.proofs.front.memory_size.Goals as goal

pub returns : goal.returns
unfolding header_size stride
returns c =
    let s = c.rows_of.ensures in
    let at = rw (s.0, s.1) at c.row_offset.ensures.start in
    omega (arith, at)
