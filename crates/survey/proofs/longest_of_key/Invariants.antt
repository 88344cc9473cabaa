-- `survey::longest_of_key` meets its contract. The loop's invariant: `longest` is the longest row of the coefficients so far, and `state` are the words
-- after them.
use Rattle.std.specs.Prelude.{◌≡◌}
use Rattle.survey.specs.Survey.{words_after, longest_of_key}
use Rattle.survey.proofs.longest_of_key.Given as goal

abbrev pub invariant-loop : goal.invariant-loop
invariant-loop l = (l.state ≡ words_after l.dt l.key l.counter) × (l.longest ≡ longest_of_key l.dt l.counter l.key)
