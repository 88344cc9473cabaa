-- `lines::read_digits` meets its contract. The loop's invariant: the number that has begun with `value` goes on from i.
use Rattle.std.specs.Prelude.{◌≡◌, ◌≤◌}
use Rattle.words.specs.Words.{drop}
use Rattle.lines.specs.Reading.{number_from}
use Rattle.lines.proofs.read_digits.Given as goal

abbrev pub invariant-loop-i : goal.invariant-loop-i
invariant-loop-i l = (l.value ≤ l.most) × (number_from l.most l.value (drop l.i l.line) ≡ number_from l.most l.first l.line)
