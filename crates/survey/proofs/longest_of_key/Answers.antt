-- `survey::longest_of_key` meets its contract.
use Rattle.survey.proofs.Laws.{largest-none, largest-more, words_none, words_more}
use Rattle.survey.proofs.longest_of_key.Goals as goal

pub loop-init : goal.loop-init
loop-init c = (rw words_none c.start-state.ensures, rw largest-none)

pub loop-preserved : goal.loop-preserved
loop-preserved c =
    let p = c.loop in (
      rw (words_more _ _ p.counter, ← p.invariant.0, c.zeros_of-c.ensures),
      rw (largest-more _ p.counter, ← p.invariant.0, ← p.invariant.1, c.max-longest.ensures, c.zeros_of-c.ensures),
    )
