-- What is claimed of the receiver, at the layout that its calls have; `any_memory` and `unopened` are of both ends. What follows is in `Consequences`.
use Rattle.receiver.specs.Layout.{receiver_layout}
use Rattle.claims.specs.Opening.{EveryOpening}
use Rattle.claims.specs.Demand.{EveryList}
use Rattle.claims.specs.Handing.{HandsOut}
use Rattle.claims.specs.Reading.{Reads}
use Rattle.claims.specs.AnyMemory.{AnyMemory, WithinSizes, Unopened}

pub record ReceiverClaims : Type 0 where
  pub opening : EveryOpening receiver_layout
  pub demand_3 : EveryList receiver_layout
  pub hands_out : HandsOut receiver_layout
  pub reads : Reads
  pub any_memory : AnyMemory receiver_layout
  pub unopened : Unopened
  pub within-sizes : WithinSizes
