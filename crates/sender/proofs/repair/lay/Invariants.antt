-- `sender::repair::lay` meets its contract.
use Rattle.std.specs.Prelude.{◌≡◌}
use Rattle.words.specs.Words.{length}
use Rattle.sender.proofs.Laying.{Laying}
use Rattle.sender.proofs.repair.lay.Given as goal

abbrev pub invariant-loop-coefficient : goal.invariant-loop-coefficient
invariant-loop-coefficient l = (length l.cs ≡ l.width) × Laying l.first l.list l.cs l.slot l.coefficient-index
