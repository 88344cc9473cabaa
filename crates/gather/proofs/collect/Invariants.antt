-- `gather::collect` meets its contract. The loop: the multipliers of the columns so far.
use Rattle.gather.specs.GatherSteps.{Collected}
use Rattle.gather.proofs.collect.Given as goal

abbrev pub invariant-loop-i : goal.invariant-loop-i
invariant-loop-i l = Collected l.shape.width l.shape.size l.first l.i l.any l.mem l.equation l.initial.multipliers l.multipliers
