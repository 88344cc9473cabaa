-- `interpolation::Repair::next` meets its contract.
use Rattle.words.specs.Words.{arith}
use Rattle.interpolation.proofs.Neighbours.{next_is}
use Rattle.interpolation.proofs.Repair.next.Goals as goal

pub returns : goal.returns
returns c =
    let a = c.args in
    cc (next_is a.self.k a.i a.self.esi (omega arith) (omega arith) (omega arith))
