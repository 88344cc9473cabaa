-- `lines::all_hexadecimal` meets its contract. The loop's invariant: all are digits if those before it are, and the others are.
use Rattle.std.specs.Prelude.{◌≡◌, ◌&&◌}
use Rattle.words.specs.Words.{drop}
use Rattle.lines.specs.Inner.{all_digits}
use Rattle.lines.proofs.all_hexadecimal.Given as goal

abbrev pub invariant-loop-b : goal.invariant-loop-b
invariant-loop-b l = all_digits l.digits ≡ l.all && all_digits (drop l.b-index l.digits)
