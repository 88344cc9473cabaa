-- All that is claimed of a block that is recovered holds.
use Rattle.block_receiver.specs.Layout.{block_layout}
use Rattle.recovery_claims.specs.Claims.{RecoveryClaims}
use Rattle.recovery_claims.proofs.Judging.{every_list}
use Rattle.recovery_claims.proofs.Checking.{opening_judged, all_checked}
use Rattle.recovery_claims.proofs.Choice.{no_choice}
use Rattle.recovery_claims.proofs.NotEmpty.{runs_exist}
use Rattle.recovery_claims.proofs.Sent.{sent_accepted, sent-shown}
use Rattle.recovery_claims.proofs.AnyMemory.{any_memory}
use Rattle.recovery_claims.proofs.FourKinds.{four_kinds}

pub recovery_claims : RecoveryClaims
recovery_claims = record {
  opening = opening_judged block_layout;
  every_list = every_list block_layout;
  all_checked = all_checked;
  no_choice = no_choice;
  runs_exist = runs_exist;
  sent_accepted = sent_accepted block_layout;
  sent-shown = sent-shown block_layout;
  any_memory = any_memory;
  four_kinds = four_kinds;
}
