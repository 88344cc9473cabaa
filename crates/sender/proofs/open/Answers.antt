-- `sender::open` meets its contract.
use Rattle.std.specs.Prelude.{◌≡◌, ◌≤◌, Err, Some, None}
use Rattle.words.specs.Words.{rules, arith, ◌∙◌, sym, ap, length}
use Rattle.memory.specs.Part.{splice}
use Rattle.wire.specs.declared.Refusal.TheVariants.{Values}
use Rattle.wire.specs.Settings.{Valid, setting_of}
use Rattle.wire.proofs.Settings.{setting-names}
use Rattle.sender.specs.State.{memory_size}
use Rattle.sender.specs.Inner.{count_bytes}
use Rattle.sender.proofs.Heads.{header-room}
use Rattle.sender.proofs.Promising.{kept, opening_values, opening_short, opening_done}
use Rattle.sender.proofs.Taking.{opens}
use Rattle.sender.proofs.open.Goals as goal
use Rattle.sender.proofs.open.Goals.{In_ok-setting, Else-mem-memory_size}

-- the setting that the numbers name
has : (p : In_ok-setting) → setting_of p.args.scheme p.args.size p.args.width ≡ Some p.in_ok-setting.setting
has p = search rules

valid : (p : In_ok-setting) → Valid p.in_ok-setting.setting
valid p = (setting-names _ _ _ _ (has p)).valid

-- the memory is long enough
room : (p : Else-mem-memory_size) → memory_size p.in_ok-setting.setting ≤ length p.args.mem.now
room p = rw p.memory_size.ensures at p.if-mem-memory_size.false

pub returns-in_err-setting : goal.returns-in_err-setting
returns-in_err-setting c =
    let a = c.args in
    let refused : c.from_residual.result ≡ Err Values = search rules in
    let none : c.setting_of.result ≡ None = search rules in
    rw (refused, opening_values a.scheme a.size a.width a.flows.now a.mem.now (sym c.setting_of.ensures ∙ none)) (kept _ _ _)

pub memory_size-requires : goal.memory_size-requires
memory_size-requires c = valid (goal.at.memory_size-requires c).In_ok-setting

pub returns-then-mem-memory_size : goal.returns-then-mem-memory_size
returns-then-mem-memory_size c =
    let a = c.args in
    let short = rw c.memory_size.ensures at c.if-mem-memory_size.true in
    rw (opening_short a.scheme a.size a.width a.flows.now a.mem.now _ (has (goal.at.returns-then-mem-memory_size c).In_ok-setting) short) (kept _ _ _)

pub write_setting-requires : goal.write_setting-requires
write_setting-requires c =
    let p = goal.at.write_setting-requires c in
    (omega (arith, header-room, room p.Else-mem-memory_size), valid p.In_ok-setting)

pub write_flows-requires : goal.write_flows-requires
write_flows-requires c = omega (arith, header-room, room (goal.at.write_flows-requires c).Else-mem-memory_size, c.write_setting.auto.mem)

pub write_counts-requires : goal.write_counts-requires
write_counts-requires c =
    omega (arith, header-room, room (goal.at.write_counts-requires c).Else-mem-memory_size, c.write_setting.auto.mem, c.write_flows.auto.mem)

pub returns : goal.returns
returns c =
    let a = c.args in
    let p = goal.at.returns c in
    let f = c.write_flows.ensures.1 ∙ ap (splice 32 a.flows.now) c.write_setting.ensures in
    let e = c.write_counts.ensures ∙ ap (splice 8 (count_bytes 0 0 0)) f in
    rw (opening_done a.scheme a.size a.width a.flows.now a.mem.now _ (has p.In_ok-setting) (room p.Else-mem-memory_size), e)
    (opens _ a.flows.now a.mem.now c.write_flows.ensures.0 (valid p.In_ok-setting) (room p.Else-mem-memory_size))
