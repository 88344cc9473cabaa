-- All claims of the sender hold.
use Rattle.sender.specs.Claims.{SenderClaims}
use Rattle.sender.proofs.Judging.{opening_judged, sender_judged, announced-only}
use Rattle.sender.proofs.Choice.{no_choice}
use Rattle.sender.proofs.Runs.{runs_exist}
use Rattle.sender.proofs.Symbols.{sender_symbols}

pub sender_claims : SenderClaims
sender_claims = record {
  opening = opening_judged;
  judged = sender_judged;
  announced-only = announced-only;
  no_choice = no_choice;
  runs_exist = runs_exist;
  symbols = sender_symbols;
}
