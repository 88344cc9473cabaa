-- `replay::feed_lines` meets its contract. The invariant: the capture has come from where the piece began to where the loop stands.
use Rattle.std.specs.Prelude.{◌≡◌, ◌-◌}
use Rattle.words.specs.Words.{length}
use Rattle.replay.proofs.Feeding.{Running}
use Rattle.replay.proofs.feed_lines.Given as goal

abbrev pub invariant-loop-line : goal.invariant-loop-line
invariant-loop-line l =
    Running l.initial.p l.initial.line l.initial.mem l.input l.initial.out l.line l.mem l.out l.p l.taken l.written
    × (length l.line ≡ length l.initial.line) × (length l.mem ≡ length l.initial.mem)
    × (length l.work ≡ length l.initial.work) × (length l.packet ≡ length l.initial.packet) × (length l.out ≡ length l.initial.out)

abbrev pub decreases-loop-line : goal.decreases-loop-line
decreases-loop-line l = length l.input - l.taken
