-- `capture::work_through` meets its contract.
use Rattle.words.specs.Words.{◌∙◌, sym, ap, not}
use Rattle.capture.proofs.Turns.{next_handed, next_moves, went_over, went_all}
use Rattle.capture.proofs.work_through.Goals as goal
use Rattle.capture.proofs.work_through.Goals.{then-loop-at-test+else-not-is_over, else-loop-at-test}

-- some of the input is taken, and no more than there is
pub loop-at-preserved : goal.loop-at-preserved
loop-at-preserved g c = (
  (next_moves _ c.args.input.now c.loop-at-test.true (sym c.is_over.ensures ∙ c.if-not-is_over.true) c.feed-pass.ensures.0).1,
  next_handed _ _ _ _ _ _ _ _ _ _ _ _ c.loop-at.invariant.1 c.feed-pass.ensures.0,
)

pub returns : goal.returns
returns g c =
    let told = ap not c.is_over-more.ensures in
    elim c.loop-at-test.branch [
      | then-loop-at-test+else-not-is_over w ↦ went_over _ _ _ _ _ _ _ _ _ c.loop-at.invariant.1 told (sym w.is_over.ensures ∙ w.if-not-is_over.false)
      | else-loop-at-test w ↦ went_all _ _ _ _ _ _ _ _ _ c.loop-at.invariant.1 told c.loop-at.invariant.0 w.loop-at-test.false
    ]
