-- `holding::find::side_of` meets its contract.
use Rattle.words.specs.Words.{arith}
use Rattle.history.specs.History.{halfway}
use Rattle.holding.proofs.Standing.{finds_side}
use Rattle.holding.proofs.find.side_of.Goals as goal

pub returns : goal.returns
unfolding halfway
returns c = rw c.then_some.ensures (finds_side c.args.base.0 c.args.esi.0 c.distance-d.result (omega arith) c.distance-d.ensures)
