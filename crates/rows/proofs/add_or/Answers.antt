-- `rows::add_or` meets its contract. The loop: the first i elements are those of the result, and any is zero only where these are.
use Rattle.words.specs.Words.{arith}
use Rattle.memory.proofs.Loop.{turned_more}
use Rattle.rows.specs.Rows.{add_scaled}
use Rattle.rows.proofs.Sums.{length_add_scaled}
use Rattle.rows.proofs.Turns.{sum_here, zero_more, sum_all}
use Rattle.rows.proofs.add_or.Goals as goal

pub loop-i-preserved : goal.loop-i-preserved
loop-i-preserved c =
    let a = c.args in
    let t = c.loop-i in
    let small = (c.type_inv.src t.i).fits in
    let here = sum_here _ (omega arith) (omega arith) small t.invariant.0 c.add.ensures in
    (turned_more (length_add_scaled _ _ _) (omega arith) t.invariant.0 here, zero_more t.any _ t.i (add_scaled 1 a.dst.now a.src.now) here t.invariant.1)

pub returns : goal.returns
returns c =
    let t = c.loop-i in
    let all = sum_all _ _ (omega arith) t.invariant.0 in
    (all, λ e j h. rw all (t.invariant.1 e j (omega arith)))
