-- `placing::place_all` meets its contract. The loop: the rows before k have joined the system, and total positions have become known.
use Rattle.std.specs.Prelude.{◌≡◌}
use Rattle.words.specs.Words.{arith, rules}
use Rattle.table.proofs.Rows.{fits_kept}
use Rattle.placing.proofs.Joining.{joined-none, joined-more, joined_all}
use Rattle.placing.proofs.place_all.Goals as goal

pub loop-k-init : goal.loop-k-init
loop-k-init c =
    let a = c.args in
    (search rules, joined-none a.shape.width a.shape.size a.work.now a.mem.now)

pub place_kept-total-requires : goal.place_kept-total-requires
place_kept-total-requires c =
    let turn = c.loop-k in (
      fits_kept c.requires.0 turn.invariant.1.kept,
      record {
        room = omega (arith, c.requires.1.room);
        within = omega (arith, c.requires.1.within);
        column = c.requires.1.columns turn.k (omega arith);
      },
    )

pub overflow_add-total : goal.overflow_add-total
overflow_add-total c =
    let turn = c.loop-k in
    omega (arith, turn.invariant.1.most, c.place_kept-total.ensures.most, c.requires.1.within, c.requires.1.wide)

pub loop-k-preserved : goal.loop-k-preserved
loop-k-preserved c =
    let a = c.args in
    let turn = c.loop-k in
    let done = c.place_kept-total in
    let more =
    joined-more a.shape.width a.shape.size turn.k turn.total done.result a.work.now a.mem.now turn.mem done.new.mem
    c.requires.0 turn.invariant.1 done.ensures in
    (search rules, more)

pub returns : goal.returns
returns c =
    let done : c.loop-k.k ≡ c.args.kept = omega arith in
    joined_all done c.loop-k.invariant.1
