-- `lines::passed_over` meets its contract. The loop's invariant: no line ends before i.
use Rattle.std.specs.Prelude.{◌≤◌, ◌-◌}
use Rattle.words.specs.Words.{length}
use Rattle.lines.specs.Inner.{NoEnd}
use Rattle.lines.proofs.passed_over.Given as goal

abbrev pub invariant-loop-i : goal.invariant-loop-i
invariant-loop-i l = (l.i ≤ length l.input) × NoEnd l.input l.i

abbrev pub decreases-loop-i : goal.decreases-loop-i
decreases-loop-i l = length l.input - l.i
