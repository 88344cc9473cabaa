-- `lines::passed_over` meets its contract.
use Rattle.std.specs.Prelude.{◌≡◌, ◌+◌, ◌-◌}
use Rattle.words.specs.Words.{arith, length, refl, take, drop, length-take, length-drop}
use Rattle.lines.proofs.Breaks.{piece_passed}
use Rattle.lines.proofs.passed_over.Goals as goal

pub loop-i-preserved : goal.loop-i-preserved
loop-i-preserved c =
    let i = c.loop-i.i in
    let x = c.args.input.now in
    let n : i + 32 - i ≡ 32 = omega arith in
    let l : length (take 32 (drop i x)) ≡ 32 = simp (length-take, length-drop) (omega arith) in
    (omega arith, piece_passed x (drop i x) i 32 refl c.loop-i.invariant.1 (rw (n, l) at (c.ends_within.ensures c.if-ends_within.false)))
