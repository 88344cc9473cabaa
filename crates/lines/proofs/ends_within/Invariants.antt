-- `lines::ends_within` meets its contract. The loop's invariant: where no 0A was found, none of the bytes before it is one.
use Rattle.std.specs.Prelude.{◌≡◌}
use Rattle.words.specs.Words.{false}
use Rattle.lines.specs.Inner.{NoEnd}
use Rattle.lines.proofs.ends_within.Given as goal

abbrev pub invariant-loop-b : goal.invariant-loop-b
invariant-loop-b l = l.found ≡ false → NoEnd l.piece l.b-index
