-- `receiver::working_size` meets its contract.
use Rattle.wire.proofs.Settings.{size_valid, size_given, size_refused}
use Rattle.wire.specs.Opening.{working_memory}
use Rattle.admission.proofs.Locating.{handed_on, some_of, none_of}
use Rattle.receiver.proofs.working_size.Goals as goal

pub returns-in_err-setting : goal.returns-in_err-setting
returns-in_err-setting c =
    let (o, is) = none_of c.ok_or.ensures.value c.in_err-setting.was in
    rw (handed_on c.from_residual.ensures.1, is) (size_refused _ _ c.setting_of.ensures _ o)

pub working_size-requires : goal.working_size-requires
working_size-requires c = size_valid _ _ c.setting_of.ensures _ (some_of _ c.ok_or.ensures.value c.in_ok-setting.was)

pub returns : goal.returns
returns c = size_given _ _ c.setting_of.ensures working_memory _ (some_of _ c.ok_or.ensures.value c.in_ok-setting.was) _ c.working_size.ensures
