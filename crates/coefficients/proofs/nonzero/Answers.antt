-- `coefficients::nonzero` meets its contract. The loop's invariant: what is still to be drawn gives what was asked.
use Rattle.std.specs.Prelude.{◌≡◌, ◌+◌, ◌-◌}
use Rattle.words.specs.Words.{arith, ◌∙◌}
use Rattle.coefficients.specs.Coefficients.{last_zero, nonzero_from}
use Rattle.coefficients.proofs.Zeros.{zero-byte, nonzero_byte}
use Rattle.coefficients.proofs.nonzero.Goals as goal

pub loop-byte-preserved : goal.loop-byte-preserved
loop-byte-preserved c =
    let b = rw c.draw-d.ensures at c.rand256-byte.ensures in
    let e = c.loop-byte.invariant.2 ∙ zero-byte _ _ (omega arith) b c.if-byte-ne0.false in
    (omega arith, omega arith, rw c.draw-d.ensures e)

pub returns-then-byte-ne0 : goal.returns-then-byte-ne0
returns-then-byte-ne0 c =
    let b = rw c.draw-d.ensures at c.rand256-byte.ensures in
    let e = c.loop-byte.invariant.2 ∙ nonzero_byte _ _ {n = c.args.before + last_zero - (c.loop-byte.draws + 1)} (omega arith) b c.if-byte-ne0.true in
    rw (c.draw-d.ensures, e)

pub returns-then-draws-last : goal.returns-then-draws-last
unfolding nonzero_from
returns-then-draws-last c =
    let b = rw c.draw-d.ensures at c.rand256-byte.ensures in
    let n : c.args.before + last_zero - (c.loop-byte.draws + 1) ≡ 0 = omega (arith, c.if-draws-last.true) in
    let e = c.loop-byte.invariant.2 ∙ zero-byte _ _ {n = c.args.before + last_zero - (c.loop-byte.draws + 1)} (omega arith) b c.if-byte-ne0.false in
    rw (c.draw-d.ensures, e, n)
