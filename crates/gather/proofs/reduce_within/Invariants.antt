-- `gather::reduce_within` meets its contract. The loop: the pivots of the rows so far are eliminated.
use Rattle.std.specs.Prelude.{◌≡◌, ◌≤◌, ◌-◌}
use Rattle.words.specs.Words.{length}
use Rattle.memory.specs.Number.{Bytes}
use Rattle.table.specs.Packet.{Works}
use Rattle.gather.specs.GatherSteps.{PacketReduced}
use Rattle.gather.proofs.reduce_within.Given as goal

abbrev pub invariant-loop-j : goal.invariant-loop-j
invariant-loop-j l =
    (l.j ≤ l.k) × PacketReduced l.shape.width l.shape.size l.k l.j l.initial.work l.work
    × Works l.shape.width l.shape.size l.k l.work × Bytes l.work
    × (length l.work ≡ length l.initial.work)

abbrev pub decreases-loop-j : goal.decreases-loop-j
decreases-loop-j l = l.k - l.j
