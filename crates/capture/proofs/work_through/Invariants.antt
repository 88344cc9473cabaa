-- `capture::work_through` meets its contract. The invariant: calls have brought the capture to where the loop stands, and the rest of the input is left.
use Rattle.std.specs.Prelude.{◌≤◌, ◌-◌}
use Rattle.words.specs.Words.{length, drop}
use Rattle.capture.specs.Going.{Handed}
use Rattle.capture.proofs.work_through.Given as goal

abbrev pub invariant-loop-at : goal.invariant-loop-at
invariant-loop-at g l = (l.at ≤ length l.input) × Handed l.fn.progress l.fn.line l.fn.mem l.input l.p l.line l.mem (drop l.at l.input)

abbrev pub decreases-loop-at : goal.decreases-loop-at
decreases-loop-at g l = length l.input - l.at
