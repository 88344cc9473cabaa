-- `placing::next_with` meets its contract. The loop: the rows from `from` on and before q have no coefficient in the column.
use Rattle.words.specs.Words.{arith}
use Rattle.placing.proofs.Placing.{passed_none, passed_more, passed_here, passed_all}
use Rattle.placing.proofs.next_with.Goals as goal

pub loop-q-init : goal.loop-q-init
loop-q-init c = passed_none (omega arith)

pub returns-then-mem-at-ne0 : goal.returns-then-mem-at-ne0
returns-then-mem-at-ne0 c = (omega arith, passed_here _ _ c.loop-q.invariant (omega arith) c.row_offset-at.ensures.start c.if-mem-at-ne0.true)

pub loop-q-preserved : goal.loop-q-preserved
loop-q-preserved c = passed_more _ _ c.loop-q.invariant (omega arith) c.row_offset-at.ensures.start c.if-mem-at-ne0.false

pub returns : goal.returns
returns c = passed_all _ c.loop-q.invariant (omega (arith, c.loop-q.invariant.most))
