-- `rows::scale` meets its contract. The loop: the first i elements are those of the result.
use Rattle.std.specs.Prelude.{◌≡◌}
use Rattle.words.specs.Words.{arith, sym, rules}
use Rattle.rows.proofs.Sums.{scaled-one}
use Rattle.rows.proofs.Turns.{scale_more, scale_all}
use Rattle.rows.proofs.scale.Goals as goal

pub returns-then-eq : goal.returns-then-eq
returns-then-eq c =
    let a = c.args in
    let e : a.c.0 ≡ 1 = search rules in
    rw e (sym (scaled-one a.row.now (λ i. (c.type_inv.row i).fits)))

pub loop-x-preserved : goal.loop-x-preserved
loop-x-preserved c = rw c.times.ensures (scale_more _ (omega arith) c.loop-x.invariant)

pub returns : goal.returns
returns c =
    rw c.multiples-m.ensures at (scale_all _ (omega arith) c.loop-x.invariant)
