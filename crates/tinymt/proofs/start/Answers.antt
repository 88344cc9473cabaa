-- `tinymt::start` meets its contract. The first loop's invariant: the state is that after the rounds before i; the second's: that after k steps.
use Rattle.std.specs.Prelude.{◌≡◌}
use Rattle.words.specs.Words.{arith, refl}
use Rattle.tinymt.proofs.Laws.{seeded-more, steps-more}
use Rattle.tinymt.specs.Generator.{steps, seeded, start_of}
use Rattle.tinymt.proofs.start.Goals as goal

pub loop-i-init : goal.loop-i-init
unfolding seeded
loop-i-init c = (omega arith, omega arith, refl)

pub loop-i-preserved : goal.loop-i-preserved
loop-i-preserved c = (omega arith, omega arith, cc (seeded-more _ _ c.loop-i.invariant.0))

pub loop-k-init : goal.loop-k-init
unfolding steps
loop-k-init c =
    let e : c.loop-i.i ≡ 8 = omega arith in
    (omega arith, rw e at c.loop-i.invariant.2)

pub loop-k-preserved : goal.loop-k-preserved
loop-k-preserved c = (omega arith, cc (steps-more c.loop-k.k _))

pub returns : goal.returns
unfolding start_of
returns c =
    let e : c.loop-k.k ≡ 8 = omega arith in
    rw e at c.loop-k.invariant.1
