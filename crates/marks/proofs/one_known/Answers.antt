-- `marks::one_known` meets its contract.
use Rattle.words.specs.Words.{arith, le-ltb}
use Rattle.marks.proofs.Gaining.{one_outside, one_inside}
use Rattle.marks.proofs.one_known.Goals as goal

pub returns-then-i-shape : goal.returns-then-i-shape
returns-then-i-shape c = one_inside _ _ _ c.args.i _ _ (omega arith) c.row_of.ensures.is _ c.is_known.ensures

pub returns-else-i-shape : goal.returns-else-i-shape
returns-else-i-shape c = rw (le-ltb c.args.i c.args.shape.width c.if-i-shape.false) (one_outside _ _ _ c.args.i _ c.if-i-shape.false)
