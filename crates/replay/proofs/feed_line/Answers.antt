-- `replay::feed_line` meets its contract.
use Rattle.words.specs.Words.{arith, refl}
use Rattle.replay.proofs.Feeding.{fed_part, fed_line}
use Rattle.replay.proofs.feed_line.Goals as goal

pub returns-then-n-input : goal.returns-then-n-input
returns-then-n-input c =
    fed_part _ _ _ _ _ _ _ _ _ c.line_end-n.ensures refl c.keep-have.ensures refl _ _ (omega arith)
    c.if-n-input.true

pub overflow_add-result : goal.overflow_add-result
overflow_add-result c = omega (arith, c.line_end-n.ensures.within, c.if-n-input.false)

pub returns : goal.returns
returns c =
    fed_line _ _ _ _ _ _ _ _ _ c.line_end-n.ensures refl c.keep-have.ensures refl _ _ _ _ _ (omega arith)
    c.if-n-input.false c.end_line-ended.ensures
