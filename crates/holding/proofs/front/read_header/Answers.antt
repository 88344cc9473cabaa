-- `holding::front::read_header` meets its contract.
use Rattle.std.specs.Prelude.{◌≡◌}
use Rattle.words.specs.Words.{ℕ, List, Some, sym}
use Rattle.wire.specs.declared.Setting.{Setting}
use Rattle.wire.specs.Settings.{Valid}
use Rattle.wire.specs.Stored.{setting_in}
use Rattle.wire.proofs.Settings.{setting-found}
use Rattle.holding.proofs.Headers.{found, none-setting, none_short, none_row}
use Rattle.holding.proofs.front.read_header.Goals as goal

-- The setting that was read.
valid : (m : List ℕ) (s : Setting) → setting_in 2 m ≡ Some s → Valid s
valid m s has = (setting-found 2 m s has).named.valid

pub returns-in_err-setting : goal.returns-in_err-setting
returns-in_err-setting c = rw (c.from_residual.ensures, none-setting _ (sym c.in_err-setting.ensures))

pub memory_size-requires : goal.memory_size-requires
memory_size-requires c = valid _ _ (sym c.in_ok-setting.ensures)

pub returns-then-mem-memory_size : goal.returns-then-mem-memory_size
returns-then-mem-memory_size c =
    rw (none_short _ _ (sym c.in_ok-setting.ensures) (rw c.memory_size.ensures at c.if-mem-memory_size.true))

pub returns-then-setting-stored : goal.returns-then-setting-stored
returns-then-setting-stored c =
    rw (none_row _ _ (sym c.in_ok-setting.ensures) (rw c.memory_size.ensures at c.if-mem-memory_size.false)
    (rw c.load_u16-stored.ensures at c.if-setting-stored.true))

pub returns : goal.returns
returns c =
    let a = c.load_u16-stored in
    rw (
      found _ _ (sym c.in_ok-setting.ensures) (rw c.memory_size.ensures at c.if-mem-memory_size.false)
          (rw a.ensures at c.if-setting-stored.false),
      c.saturating_sub-oldest.ensures,
      ← a.ensures,
      ← c.load_u32.ensures,
    )
