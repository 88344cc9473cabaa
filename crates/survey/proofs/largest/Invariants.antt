-- `survey::largest` meets its contract. The loop's invariant: `most` is the largest value below i.
use Rattle.std.specs.Prelude.{◌≡◌, ◌<◌, ℕ}
use Rattle.survey.specs.Survey.{largest}
use Rattle.survey.proofs.largest.Given as goal

abbrev pub invariant-loop-i : goal.invariant-loop-i
invariant-loop-i g l = (h : ℕ → ℕ) → ((i r : ℕ) → i < l.i → goal.F-post g l.f i r → r ≡ h i) → l.most ≡ largest h l.i
