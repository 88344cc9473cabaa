-- `blocks::read_block` meets its contract.
use Rattle.std.specs.Prelude.{◌≤◌}
use Rattle.words.specs.Words.{length, sym, ◌∙◌}
use Rattle.history.specs.History.{memory_size}
use Rattle.wire.proofs.Settings.{setting-found}
use Rattle.blocks.proofs.Stored.{none-setting, none_short, found}
use Rattle.blocks.proofs.read_block.Goals as goal

pub returns-in_err-setting : goal.returns-in_err-setting
returns-in_err-setting c = c.from_residual.ensures ∙ sym (none-setting _ _ (sym c.setting_in.ensures ∙ c.in_err-setting.was))

pub memory_size-requires : goal.memory_size-requires
memory_size-requires c = (setting-found _ _ _ (sym c.setting_in.ensures ∙ c.in_ok-setting.was)).named.valid

pub returns-then-mem-memory_size : goal.returns-then-mem-memory_size
returns-then-mem-memory_size c =
    rw (none_short _ _ _ (sym c.setting_in.ensures ∙ c.in_ok-setting.was) (rw c.memory_size.ensures at c.if-mem-memory_size.true))

pub returns : goal.returns
returns c =
    let room : memory_size c.in_ok-setting.setting ≤ length c.args.mem.now = rw c.memory_size.ensures at c.if-mem-memory_size.false in
    rw (
      found _ _ _ (sym c.setting_in.ensures ∙ c.in_ok-setting.was) room,
      ← c.load_u32-number.ensures,
      ← c.load_u16-total.ensures,
      ← c.block_of.ensures,
      c.ok.ensures.value,
    )
