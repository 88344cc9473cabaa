-- `receiver::open` meets its contract.
use Rattle.std.specs.Prelude.{◌≡◌, ◌≤◌}
use Rattle.words.specs.Words.{arith, length, ◌∙◌, sym, ap, Some}
use Rattle.memory.specs.Part.{splice}
use Rattle.wire.specs.Settings.{setting_of}
use Rattle.wire.proofs.Settings.{setting-names}
use Rattle.history.specs.History.{memory_size}
use Rattle.admission.proofs.Locating.{handed_on, some_of, none_of}
use Rattle.receiver.proofs.Opening.{opening_values, opening_short, opening_done}
use Rattle.receiver.proofs.open.Goals as goal
use Rattle.receiver.proofs.open.Goals.{In_ok-setting}

-- The values name the setting.
named : (c : In_ok-setting) → setting_of c.args.scheme c.args.size c.args.width ≡ Some c.in_ok-setting.setting
named c = sym c.setting_of.ensures ∙ some_of _ c.ok_or.ensures.value c.in_ok-setting.was

pub returns-in_err-setting : goal.returns-in_err-setting
returns-in_err-setting c =
    let (o, is) = none_of c.ok_or.ensures.value c.in_err-setting.was in
    rw (handed_on c.from_residual.ensures.1, is) (opening_values _ _ _ _ _ (sym c.setting_of.ensures ∙ o))

pub memory_size-requires : goal.memory_size-requires
memory_size-requires c = (setting-names _ _ _ _ (named (goal.at.memory_size-requires c).In_ok-setting)).valid

pub returns-then-mem-memory_size : goal.returns-then-mem-memory_size
returns-then-mem-memory_size c =
    let named = named (goal.at.returns-then-mem-memory_size c).In_ok-setting in
    opening_short _ _ _ _ _ _ named (rw c.memory_size.ensures at c.if-mem-memory_size.true)

pub write_fresh-requires : goal.write_fresh-requires
write_fresh-requires c = (
  rw c.memory_size.ensures at c.if-mem-memory_size.false,
  (setting-names _ _ _ _ (named (goal.at.write_fresh-requires c).In_ok-setting)).valid,
)

pub write_flows-requires : goal.write_flows-requires
write_flows-requires c =
    let room : memory_size c.in_ok-setting.setting ≤ length c.args.mem.now = rw c.memory_size.ensures at c.if-mem-memory_size.false in
    omega (arith, room, c.write_fresh.auto.mem)

pub returns : goal.returns
returns c =
    let a = c.args in
    let room : memory_size c.in_ok-setting.setting ≤ length a.mem.now = rw c.memory_size.ensures at c.if-mem-memory_size.false in
    opening_done _ _ _ _ (named (goal.at.returns c).In_ok-setting) a.flows.now _ _ c.write_flows.ensures.0 room
    (c.write_flows.ensures.1 ∙ ap (splice 32 a.flows.now) c.write_fresh.ensures)
