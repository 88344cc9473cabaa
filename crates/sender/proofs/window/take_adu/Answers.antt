-- `sender::window::take_adu` meets its contract.
use Rattle.words.specs.Words.{arith}
use Rattle.sender.proofs.Heads.{header-room, Opened, opened}
use Rattle.sender.proofs.Taking.{took}
use Rattle.sender.proofs.window.take_adu.Goals as goal
use Rattle.sender.proofs.window.take_adu.Goals.{Start}

-- what the header says of the memory
says : (p : Start) → Opened p.args.mem.now p.args.header
says p = opened p.args.mem.now p.args.header p.requires.0

pub place_symbols-next-requires : goal.place_symbols-next-requires
place_symbols-next-requires c =
    let o = says (goal.at.place_symbols-next-requires c).Start in
    let k = c.requires.1 in
    record { valid = o.valid; room = o.room; slot = o.next; short = k.short; counted = k.counted }

pub overflow_add-header : goal.overflow_add-header
overflow_add-header c = let o = says (goal.at.overflow_add-header c).Start in omega arith

pub overflow_cast-count : goal.overflow_cast-count
overflow_cast-count c = let o = says (goal.at.overflow_cast-count c).Start in omega arith

pub write_counts-requires : goal.write_counts-requires
write_counts-requires c =
    let o = says (goal.at.write_counts-requires c).Start in
    let p = c.place_symbols-next.ensures in
    omega (arith, header-room, p.same, p.within, c.min-held.ensures)

pub returns : goal.returns
returns c =
    let a = c.args in
    let p = c.place_symbols-next in
    let held = c.min-held in
    let e = rw c.plus.ensures at c.write_counts.ensures in
    rw e
    (took a.header a.flow a.adu.now a.mem.now p.new.mem p.result a.count held.result c.requires.0 c.requires.1.counted
    held.ensures p.ensures)
