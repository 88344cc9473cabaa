-- `marks::note` meets its contract.
use Rattle.words.specs.Words.{arith}
use Rattle.table.proofs.Offsets.{header-long}
use Rattle.marks.proofs.Passing.{noted_byte}
use Rattle.marks.proofs.note.Goals as goal

pub bounds-mem-11 : goal.bounds-mem-11
bounds-mem-11 c = omega (arith, header-long)

pub returns : goal.returns
returns c = noted_byte _ _ (omega (arith, header-long))
