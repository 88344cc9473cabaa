-- `sender::window::place_symbols` meets its contract.
use Rattle.std.specs.Prelude.{◌≡◌, ◌≤◌, ◌+◌, ◌<◌, ◌*◌}
use Rattle.words.specs.Words.{arith, ℕ, List, length, ◌∙◌, sym, ap, [], get_or, take, add-one, take_all, mul-le-mul}
use lib.Seq.{take-suc}
use Rattle.wire.specs.declared.Setting.{Setting}
use Rattle.wire.specs.Packets.{symbol_count, source_symbols}
use Rattle.wire.proofs.Adui.{symbols_count, symbol_at_lem, symbol_length}
use Rattle.memory.specs.Part.{splice}
use Rattle.sender.specs.State.{header_size}
use Rattle.sender.proofs.Ring.{slot_fits, placed_more}
use Rattle.sender.proofs.window.place_symbols.Goals as goal
use Rattle.sender.proofs.window.place_symbols.Goals.{At-loop-i}

-- the setting of the call
abbrev setting : At-loop-i → Setting
setting p = p.args.setting

-- the next slot lies in the memory
bound : (p : At-loop-i) → p.loop-i.slot * (setting p).size ≤ 382500
bound p =
    let a : p.loop-i.slot ≤ 255 = omega (arith, p.loop-i.invariant.1.within) in
    let b : (setting p).size ≤ 1500 = omega arith in
    mul-le-mul a b

inside : (p : At-loop-i) → header_size + p.loop-i.slot * (setting p).size + (setting p).size ≤ length p.loop-i.mem
inside p =
    let t = setting p in
    slot_fits t.size t.width (omega arith) p.loop-i.mem p.loop-i.slot p.loop-i.invariant.1.within (omega (arith, p.loop-i.invariant.1.same))

pub place_symbol-requires : goal.place_symbol-requires
unfolding header_size
place_symbol-requires c = omega (arith, inside (goal.at.place_symbol-requires c).At-loop-i)

pub loop-i-preserved : goal.loop-i-preserved
unfolding header_size
loop-i-preserved c =
    let a = c.args in
    let t = a.setting in
    let l = c.loop-i in
    let s = source_symbols a.flow a.adu.now t.size in
    let h : l.i < symbol_count t.size (length a.adu.now) = omega arith in
    let k : l.i < length s = rw (symbols_count a.flow a.adu.now t.size) h in
    let x = get_or s l.i [] in
    let n = symbol_length a.flow a.adu.now t.size (omega arith) l.i h in
    let more = placed_more t.size t.width a.mem.now a.first (take l.i s) l.mem l.slot l.invariant.1 x n (omega arith) in
    let at = sym (symbol_at_lem a.flow a.adu.now t.size l.i h) in
    let placed = c.place_symbol in
    let e : placed.new.mem ≡ splice (header_size + l.slot * t.size) x l.mem =
    placed.ensures ∙ ap (λ (y : List ℕ). splice (header_size + l.slot * t.size) y l.mem) at in
    (omega arith, rw (add-one, take-suc s l.i [] k, e, c.next-slot.ensures.0) more)

pub returns : goal.returns
returns c =
    let a = c.args in
    let l = c.loop-i in
    let s = source_symbols a.flow a.adu.now a.setting.size in
    rw (take_all l.i s (omega (arith, symbols_count a.flow a.adu.now a.setting.size))) at l.invariant.1
