-- And so does what is proved of it besides.
use Rattle.receiver.specs.Layout.{receiver_layout}
use Rattle.claims.specs.Consequences.{ReceiverConsequences}
use Rattle.claims.proofs.NoChoice.{no_choice}
use Rattle.claims.proofs.Joining.{joins, unmarked}
use Rattle.claims.proofs.Checking.{all_checked, base_rises}
use Rattle.claims.proofs.Placing.{every_place, part_placed}
use Rattle.claims.proofs.Origins.{origins, brought_by, stays_heard}
use Rattle.claims.proofs.Strays.{strays}
use Rattle.claims.proofs.Sent.{sender_fills, sent_accepted, sent_behind, sent-shown}
use Rattle.claims.proofs.Sending.{sender_sends}
use Rattle.claims.proofs.SentAdus.{start_gives, junk_gives, sent-written, sent-starts, sent-handed}
use Rattle.claims.proofs.Heard.{chain_goes_on, heard, heard_handed}
use Rattle.claims.proofs.NotEmpty.{runs_exist}
use Rattle.claims.proofs.Drawing.{accepted_draws, made_draws}

pub receiver_consequences : ReceiverConsequences
receiver_consequences = record {
  no_choice = no_choice;
  runs_exist = runs_exist;
  joins = joins receiver_layout;
  unmarked = unmarked;
  all_checked = all_checked receiver_layout;
  base_rises = base_rises receiver_layout;
  places = every_place receiver_layout;
  part_placed = part_placed;
  origins = origins receiver_layout;
  brought_by = brought_by;
  stays_heard = stays_heard receiver_layout;
  strays = strays receiver_layout;
  goes_on = chain_goes_on;
  heard = heard;
  heard_handed = heard_handed receiver_layout;
  sender_fills = sender_fills;
  sent_accepted = sent_accepted;
  sent_behind = sent_behind;
  sent-shown = sent-shown receiver_layout;
  sender_sends = sender_sends;
  start_gives = start_gives;
  junk_gives = junk_gives;
  sent-written = sent-written;
  sent-starts = sent-starts;
  sent-handed = sent-handed;
  accepted_draws = accepted_draws;
  made_draws = made_draws;
}
