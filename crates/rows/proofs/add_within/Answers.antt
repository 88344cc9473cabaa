-- `rows::add_within` meets its contract: one side of the cut has the stretch that is changed, and the other the one that is added.
use Rattle.words.specs.Words.{arith}
use Rattle.rows.proofs.Turns.{changed_before, changed_after}
use Rattle.rows.proofs.add_within.Goals as goal

pub returns-then-a-b : goal.returns-then-a-b
returns-then-a-b c =
    let a = c.args in
    let cut = c.split_at_mut-low.ensures in
    changed_before a.c.0 a.a a.b a.n a.mem.now (omega arith) (omega arith) cut.front cut.back c.add_part.ensures

pub returns-else-a-b : goal.returns-else-a-b
returns-else-a-b c =
    let a = c.args in
    let cut = c.split_at_mut-low-else-a-b.ensures in
    changed_after a.c.0 a.a a.b a.n a.mem.now (omega arith) cut.front cut.back c.add_part-else-a-b.ensures
