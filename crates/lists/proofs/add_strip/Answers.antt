-- `lists::add_strip` meets its contract. The loop: the first i bytes are those of the sum.
use Rattle.words.specs.Words.{arith, get_or}
use Rattle.field.proofs.Laws.{product-one}
use Rattle.memory.proofs.Loop.{turned_all}
use Rattle.rows.proofs.Sums.{length_add_scaled}
use Rattle.rows.proofs.Turns.{sum_more}
use Rattle.lists.proofs.add_strip.Goals as goal

pub loop-i-preserved : goal.loop-i-preserved
loop-i-preserved c =
    let s = c.args.strip.now in
    let t = c.loop-i in
    let one = product-one (get_or s t.i 0) (omega arith) in
    rw one at (sum_more 1 s (omega arith) (omega arith) t.invariant)

pub returns : goal.returns
returns c = turned_all (length_add_scaled _ _ _) (omega arith) c.loop-i.invariant
