-- `replay::feed_lines` meets its contract. The invariant: the capture has come from where the piece began to where the loop stands.
use Rattle.words.specs.Words.{arith, length, refl, ◌∙◌, sym}
use Rattle.replay.proofs.Feeding.{starts, taken_more, runs, wanted, fed}
use Rattle.replay.proofs.feed_lines.Goals as goal

pub loop-line-init : goal.loop-line-init
loop-line-init c = (starts _ _ _ _ _, refl, refl, refl, refl, refl)

-- there is input, room for a record, and more is wanted
pub slice_bounds-feed_line-count : goal.slice_bounds-feed_line-count
slice_bounds-feed_line-count c = omega (arith, (wanted c.loop-line.taken (length c.args.input.now) c.loop-line.written c.loop-line.p c.goes_on.result c.goes_on.ensures c.loop-line-test.true).0)

pub feed_line-pass-requires : goal.feed_line-pass-requires
feed_line-pass-requires c =
    let i = c.loop-line.invariant in
    let l = c.requires.0 in (
      record {
        characters = omega (arith, i.1, l.characters);
        memory = omega (arith, i.2, l.memory);
        working = omega (arith, i.3, l.working);
        bytes = omega (arith, i.4, l.bytes);
      },
      omega (arith, i.5, c.requires.1, (wanted c.loop-line.taken (length c.args.input.now) c.loop-line.written c.loop-line.p c.goes_on.result c.goes_on.ensures c.loop-line-test.true).1),
    )

-- some input is taken, and no more than there is
pub overflow_add-taken : goal.overflow_add-taken
overflow_add-taken c =
    let goes = wanted c.loop-line.taken (length c.args.input.now) c.loop-line.written c.loop-line.p c.goes_on.result c.goes_on.ensures c.loop-line-test.true in
    omega (arith, (taken_more _ c.args.input.now goes.0 c.feed_line-pass.ensures).1)

pub loop-line-smaller : goal.loop-line-smaller
loop-line-smaller c =
    let goes = wanted c.loop-line.taken (length c.args.input.now) c.loop-line.written c.loop-line.p c.goes_on.result c.goes_on.ensures c.loop-line-test.true in
    let more = taken_more _ c.args.input.now goes.0 c.feed_line-pass.ensures in
    omega (arith, more.0, more.1, goes.0)

pub loop-line-preserved : goal.loop-line-preserved
loop-line-preserved c =
    let i = c.loop-line.invariant in
    let f = c.feed_line-pass in (
      runs _ _ _ _ _ _ _ _ _ _ _ _ _ _ _ i.0 (wanted c.loop-line.taken (length c.args.input.now) c.loop-line.written c.loop-line.p c.goes_on.result c.goes_on.ensures c.loop-line-test.true) f.ensures,
      f.auto.line ∙ i.1,
      f.auto.mem ∙ i.2,
      f.auto.work ∙ i.3,
      f.auto.packet ∙ i.4,
      f.auto.out ∙ i.5,
    )

pub returns : goal.returns
returns c = let i = c.loop-line.invariant in fed _ _ _ _ _ _ _ _ _ _ _ i.5 i.0 (sym c.goes_on.ensures ∙ c.loop-line-test.false)
