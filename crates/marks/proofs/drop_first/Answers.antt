-- `marks::drop_first` meets its contract.
use Rattle.words.specs.Words.{arith}
use Rattle.marks.proofs.Only.{only_fits}
use Rattle.marks.proofs.Marking.{dropped_none, dropped_more, dropped_to}
use Rattle.marks.proofs.drop_first.Goals as goal

pub loop-i-init : goal.loop-i-init
loop-i-init c = dropped_none _ _ _ _

pub write-requires : goal.write-requires
write-requires c = (only_fits c.requires.0 c.loop-i.invariant.only, omega arith, omega arith)

pub loop-i-preserved : goal.loop-i-preserved
loop-i-preserved c = dropped_more _ _ _ c.loop-i.i _ _ _ c.requires.0.some_width (omega arith) c.loop-i.invariant c.write.ensures

pub returns : goal.returns
returns c = dropped_to (omega arith) c.loop-i.invariant
