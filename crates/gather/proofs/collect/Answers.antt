-- `gather::collect` meets its contract. The loop: the multipliers of the columns so far.
use Rattle.std.specs.Prelude.{◌≡◌}
use Rattle.words.specs.Words.{arith, subst}
use Rattle.gather.specs.GatherSteps.{Collected}
use Rattle.gather.proofs.Collecting.{collected_none, collected_more}
use Rattle.gather.proofs.collect.Goals as goal

pub loop-i-init : goal.loop-i-init
loop-i-init c = collected_none _ _ _ _ _ _ (λ i. (c.type_inv.multipliers i).fits)

pub loop-i-preserved : goal.loop-i-preserved
loop-i-preserved c =
    let turn = c.loop-i in
    collected_more _ _ _ _ _ turn.i _ _ turn.any _ turn.multipliers (omega arith) (omega arith) (omega arith) c.row_after-c.ensures.is
    c.multiplier-k.ensures turn.invariant

pub returns : goal.returns
returns c =
    let a = c.args in
    let turn = c.loop-i in
    let all : turn.i ≡ a.n = omega arith in
    subst (λ k. Collected a.shape.width a.shape.size a.first k turn.any a.mem.now a.equation.now a.multipliers.now
    turn.multipliers) all turn.invariant
