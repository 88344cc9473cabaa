-- What is proved of the receiver besides, at the layout that its calls have: that the claims leave no choice and are not empty, where a symbol stands,
-- whether it was heard, how a stream is joined, that flows not announced leave no trace, and what becomes of a sender's packets and ADUs.
use Rattle.receiver.specs.Layout.{receiver_layout}
use Rattle.claims.specs.NoChoice.{NoChoice}
use Rattle.claims.specs.Joining.{Joins, Unmarked}
use Rattle.claims.specs.Checking.{AllChecked, BaseRises}
use Rattle.claims.specs.Placing.{EveryPlace, PartPlaced}
use Rattle.claims.specs.Origins.{Origins, AreBroughtBy, StaysHeard}
use Rattle.claims.specs.Strays.{Strays}
use Rattle.claims.specs.Heard.{GoesOn, Heard, HeardHanded}
use Rattle.claims.specs.Sent.{SenderFills, SentAccepted, SentBehind, SentShown}
use Rattle.claims.specs.SentAdus.{SenderSends, StartGives, JunkGives, SentWritten, SentStarts, SentHanded}
use Rattle.claims.specs.NotEmpty.{RunsExist}
use Rattle.claims.specs.Drawing.{AcceptedDraws, MadeDraws}

pub record ReceiverConsequences : Type 0 where
  pub no_choice : NoChoice
  pub runs_exist : RunsExist
  pub joins : Joins receiver_layout
  pub unmarked : Unmarked
  pub all_checked : AllChecked receiver_layout
  pub base_rises : BaseRises receiver_layout
  pub places : EveryPlace receiver_layout
  pub part_placed : PartPlaced
  pub origins : Origins receiver_layout
  pub brought_by : AreBroughtBy
  pub stays_heard : StaysHeard receiver_layout
  pub strays : Strays receiver_layout
  pub goes_on : GoesOn
  pub heard : Heard
  pub heard_handed : HeardHanded receiver_layout
  pub sender_fills : SenderFills
  pub sent_accepted : SentAccepted
  pub sent_behind : SentBehind
  pub sent-shown : SentShown receiver_layout
  pub sender_sends : SenderSends
  pub start_gives : StartGives
  pub junk_gives : JunkGives
  pub sent-written : SentWritten
  pub sent-starts : SentStarts
  pub sent-handed : SentHanded
  pub accepted_draws : AcceptedDraws
  pub made_draws : MadeDraws
