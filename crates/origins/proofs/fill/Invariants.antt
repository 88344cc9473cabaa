-- `origins::fill` meets its contract.
use Rattle.origins.specs.Steps.{Filled}
use Rattle.origins.proofs.fill.Given as goal

abbrev pub invariant-loop-i : goal.invariant-loop-i
invariant-loop-i l = Filled l.shape.width l.shape.size l.shape.oldest l.first l.i l.v l.initial.mem l.mem
