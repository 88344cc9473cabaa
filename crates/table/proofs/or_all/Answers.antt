-- `table::or_all` meets its contract. The loop: x is zero just where every byte so far is.
use Rattle.std.specs.Prelude.{◌+◌, ◌-◌}
use Rattle.words.specs.Words.{arith}
use Rattle.memory.proofs.Parts.{get_or-part, length_part}
use Rattle.memory.specs.Part.{part}
use Rattle.table.proofs.Marking.{or-none, or-more, or_done}
use Rattle.table.proofs.or_all.Goals as goal

pub loop-byte-init : goal.loop-byte-init
loop-byte-init c = or-none c.args.from c.args.bytes.now

pub loop-byte-preserved : goal.loop-byte-preserved
unfolding part
loop-byte-preserved c =
    let a = c.args in
    let turn = c.loop-byte in
    let size = length_part a.from (a.to - a.from) a.bytes.now (omega arith) in
    or-more a.from turn.byte-index turn.x a.bytes.now _
    (get_or-part a.from (a.to - a.from) turn.byte-index a.bytes.now (omega (arith, size, c.loop-byte-test.true))) turn.invariant

pub returns : goal.returns
unfolding part
returns c =
    let a = c.args in
    let turn = c.loop-byte in
    let size = length_part a.from (a.to - a.from) a.bytes.now (omega arith) in
    or_done a.from (a.from + turn.byte-index) a.to turn.x a.bytes.now (omega (arith, size, c.loop-byte-test.false, turn.auto.byte-index-end)) turn.invariant
