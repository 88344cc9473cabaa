-- `survey::largest` meets its contract. The loop's invariant: `most` is the largest value below i.
use Rattle.words.specs.Words.{arith}
use Rattle.survey.proofs.Laws.{largest-none, largest-more}
use Rattle.survey.proofs.largest.Goals as goal

pub loop-i-init : goal.loop-i-init
loop-i-init g c = λ h e. rw largest-none

pub loop-i-preserved : goal.loop-i-preserved
loop-i-preserved g c = λ h e.
    let a = c.loop-i.invariant h (λ i r k p. e i r (omega arith) p) in
    let b = e c.loop-i.i c.f.result (omega arith) c.f.ensures in
    rw (largest-more h c.loop-i.i, ← a, ← b) c.max-most.ensures
