-- `bench::add_by_tables` meets its contract. The loop: the first i elements are those of the result.
use Rattle.words.specs.Words.{arith}
use Rattle.rows.proofs.Turns.{sum_more, sum_all}
use Rattle.bench.proofs.add_by_tables.Goals as goal

pub loop-i-preserved : goal.loop-i-preserved
loop-i-preserved c =
    rw (c.add.ensures, c.mul.ensures) (sum_more _ _ (omega arith) (omega arith) c.loop-i.invariant)

pub returns : goal.returns
returns c = sum_all _ _ (omega arith) c.loop-i.invariant
