-- `refusals::Args::read` is safe: a digit more is one of 32.
use Rattle.std.specs.Prelude.{◌≤◌}
use Rattle.refusals.proofs.Args.read.Given as goal

abbrev pub invariant-loop-character : goal.invariant-loop-character
invariant-loop-character l = l.digits ≤ 32
