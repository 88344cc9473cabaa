-- `marks::must_pass` meets its contract.
use Rattle.words.specs.Words.{arith}
use Rattle.table.proofs.Offsets.{header-long}
use Rattle.marks.proofs.must_pass.Goals as goal

pub bounds-mem-11 : goal.bounds-mem-11
bounds-mem-11 c = omega (arith, header-long)
