-- `rows::add_scaled` meets its contract. The loop: the first i elements are those of the result.
use Rattle.std.specs.Prelude.{◌≡◌}
use Rattle.words.specs.Words.{arith, sym, rules}
use Rattle.rows.proofs.Sums.{add_scaled_zero}
use Rattle.rows.proofs.Turns.{sum_more, sum_all}
use Rattle.rows.proofs.add_scaled.Goals as goal

pub returns-then-eq : goal.returns-then-eq
returns-then-eq c =
    let a = c.args in
    let e : a.c.0 ≡ 0 = search rules in
    rw e (sym (add_scaled_zero a.dst.now a.src.now))

pub loop-i-preserved : goal.loop-i-preserved
loop-i-preserved c =
    let t = c.loop-i in
    rw (c.add-in-loop-i.ensures, c.times.ensures) (sum_more _ _ (omega arith) (omega arith) t.invariant)

pub returns : goal.returns
returns c =
    rw c.multiples-m.ensures at (sum_all _ _ (omega arith) c.loop-i.invariant)
