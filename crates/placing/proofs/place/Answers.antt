-- `placing::place` meets its contract. The loop: the column is clear in the rows before the one that was found, of which count have become known.
use Rattle.words.specs.Words.{arith}
use Rattle.placing.proofs.Placing.{next_inside, next_first, cleared_none, cleared_more, cleared_skip, settled}
use Rattle.placing.proofs.place.Goals as goal

pub loop-found-init : goal.loop-found-init
loop-found-init c =
    let a = c.args in
    let found = c.next_with-found in
    let first = next_first _ _ _ _ _ found.result found.ensures in (
      next_inside _ _ _ _ _ found.result found.ensures,
      cleared_skip _ _ _ _ _ 0 _ 0 _ (omega (arith, c.requires.0.some_symbol)) (omega arith) first
          (cleared_none a.shape.width a.shape.size a.r a.row.now a.mem.now),
    )

pub loop-found-preserved : goal.loop-found-preserved
loop-found-preserved c =
    let here = rw c.in-Some.is at c.loop-found.invariant in
    let found = c.next_with-found-in-Some in
    let first = next_first _ _ _ _ _ found.result found.ensures in
    -- After a turn the column is clear in one row more.
    let more = cleared_more _ _ _ _ _ c.in-Some.q _ _ _ _ here.0 here.1 c.clear_coefficient.ensures in (
      next_inside _ _ _ _ _ found.result found.ensures,
      rw c.from-count.ensures (cleared_skip _ _ _ _ _ _ _ _ _ (omega (arith, c.requires.0.some_symbol)) (omega arith) first more),
    )

pub returns : goal.returns
returns c =
    let all = rw c.in_default.is at c.loop-found.invariant in
    rw c.from.ensures (settled _ _ _ _ _ c.args.shape.width _ _ _ _ (omega arith) (omega arith) all.1 c.store_row.ensures)
