-- `sender::repair::write_packet` meets its contract.
use Rattle.std.specs.Prelude.{◌≤◌, ◌*◌}
use Rattle.words.specs.Words.{arith, mul-le-mul}
use Rattle.coefficients.proofs.Fills.{lists_were_done}
use Rattle.sender.proofs.Heads.{Opened, opened}
use Rattle.sender.proofs.Combining.{packed_done}
use Rattle.sender.proofs.repair.write_packet.Goals as goal
use Rattle.sender.proofs.repair.write_packet.Goals.{Start}

-- what the header says of the memory
says : (p : Start) → Opened p.args.mem.now p.args.header
says p = opened _ _ p.requires.0

-- the lists fit the room for them
fits : (p : Start) → p.args.count * p.args.header.held ≤ 4080
fits p =
    let o = says p in
    let a : p.args.count ≤ 16 = omega arith in
    let b : p.args.header.held ≤ 255 = omega arith in
    mul-le-mul a b

-- and the packet's length a usize
area : (p : Start) → p.args.count * p.args.header.setting.size ≤ 24000
area p =
    let o = says p in
    let a : p.args.count ≤ 16 = omega arith in
    let b : p.args.header.setting.size ≤ 1500 = omega arith in
    mul-le-mul a b

pub fill_lists-requires : goal.fill_lists-requires
fill_lists-requires c =
    let s = (goal.at.fill_lists-requires c).Start in
    let o = says s in
    (omega (arith, fits s, c.room_for_lists-lists.ensures), omega arith, omega arith)

pub overflow_cast-held : goal.overflow_cast-held
overflow_cast-held c = let o = says (goal.at.overflow_cast-held c).Start in omega arith

pub write_repair-requires : goal.write_repair-requires
write_repair-requires c = let o = says (goal.at.write_repair-requires c).Start in omega arith

pub repair_symbols-requires : goal.repair_symbols-requires
repair_symbols-requires c =
    let s = (goal.at.repair_symbols-requires c).Start in (
      c.requires.0,
      record {
        symbols = omega (arith, c.write_repair.auto.out);
        lists = omega (arith, c.fill_lists.auto.out, fits s, c.room_for_lists-lists.ensures);
      },
      omega arith,
    )

pub returns : goal.returns
returns c =
    let a = c.args in
    let f = c.fill_lists.ensures in
    let done = lists_were_done f c.in_ok-draws.was in
    packed_done a.header a.key.0 a.dt a.count a.mem.now a.out.now _
    c.written_key-written.ensures done.0 _ _ _ _ _
    c.minus.ensures (f.bytes _ c.in_ok-draws.was) c.write_repair.ensures
    c.repair_symbols.ensures _ done.1
