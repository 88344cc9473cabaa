-- What is claimed of the receiver holds.
use Rattle.receiver.specs.Layout.{receiver_layout}
use Rattle.claims.specs.Receiver.{ReceiverClaims}
use Rattle.claims.proofs.Opening.{every_opening}
use Rattle.claims.proofs.Demand.{demand_3}
use Rattle.claims.proofs.Handing.{hands_out}
use Rattle.claims.proofs.Reading.{reads}
use Rattle.claims.proofs.AnyMemory.{any_memory}
use Rattle.claims.proofs.Unopened.{unopened}
use Rattle.claims.proofs.Left.{within-sizes}

pub receiver_claims : ReceiverClaims
receiver_claims = record {
  opening = every_opening receiver_layout;
  demand_3 = demand_3 receiver_layout;
  hands_out = hands_out receiver_layout;
  reads = reads;
  any_memory = any_memory receiver_layout;
  unopened = unopened;
  within-sizes = within-sizes;
}
