-- All that is claimed of a block that is recovered, at the layout that its calls have; `any_memory` and `four_kinds` are of an encoder too.
use Rattle.block_receiver.specs.Layout.{block_layout}
use Rattle.recovery_claims.specs.Judged.{EveryList}
use Rattle.recovery_claims.specs.Checking.{OpeningIsJudged, AllChecked}
use Rattle.recovery_claims.specs.Choice.{NoChoice}
use Rattle.recovery_claims.specs.NotEmpty.{RunsExist}
use Rattle.recovery_claims.specs.Sent.{SentAccepted, SentShown}
use Rattle.recovery_claims.specs.AnyMemory.{AnyMemory}
use Rattle.recovery_claims.specs.FourKinds.{FourKinds}

pub record RecoveryClaims : Type 0 where
  pub opening : OpeningIsJudged block_layout
  pub every_list : EveryList block_layout
  pub all_checked : AllChecked
  pub no_choice : NoChoice
  pub runs_exist : RunsExist
  pub sent_accepted : SentAccepted block_layout
  pub sent-shown : SentShown block_layout
  pub any_memory : AnyMemory
  pub four_kinds : FourKinds
