-- `sender::memory_size` meets its contract.
use Rattle.std.specs.Prelude.{◌≡◌, Err, Some, None}
use Rattle.words.specs.Words.{rules}
use Rattle.wire.specs.declared.Refusal.TheVariants.{Values}
use Rattle.wire.specs.Opening.{sender_memory}
use Rattle.wire.proofs.Settings.{size_valid, size_given, size_refused}
use Rattle.sender.specs.State.{header_size}
use Rattle.sender.proofs.memory_size.Goals as goal
use Rattle.sender.proofs.memory_size.Goals.{In_ok-setting}

named : (p : In_ok-setting) → p.setting_of.result ≡ Some p.in_ok-setting.setting
named p = search rules

pub returns-in_err-setting : goal.returns-in_err-setting
returns-in_err-setting c =
    let refused : c.from_residual.result ≡ Err Values = search rules in
    let none : c.setting_of.result ≡ None = search rules in
    rw refused (size_refused _ _ c.setting_of.ensures _ none)

pub memory_size-requires : goal.memory_size-requires
memory_size-requires c = size_valid _ _ c.setting_of.ensures _ (named (goal.at.memory_size-requires c).In_ok-setting)

pub returns : goal.returns
unfolding header_size
returns c =
    size_given _ _ c.setting_of.ensures sender_memory _ (named (goal.at.returns c).In_ok-setting) _ c.memory_size.ensures
