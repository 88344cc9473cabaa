-- `lists::pairs_of` meets its contract.
use Rattle.std.proofs.Common.{◌<◌, ◌≤◌, rules, tests}
use Rattle.std.proofs.lemmas.Iterator.{cases_from_any, YieldsList-from_slice}
use Rattle.words.specs.Words.{arith}
use Rattle.lists.proofs.Digits.{above_four, above_one}
use Rattle.lists.proofs.pairs_of.Goals as goal

pub returns-then-any : goal.returns-then-any
returns-then-any c = (omega arith, above_four _ (λ i. (c.type_inv.cs i).fits))

pub returns-else-any : goal.returns-else-any
returns-else-any c =
    let cs = c.args.cs.now in
    let small = rw c.if-any.false at (
    cases_from_any _ _ _ (λ x. 4 ≤ x) (λ x. x < 4) c.any.ensures.ran (YieldsList-from_slice cs cc) (λ x q k. search (rules, tests)) (λ x q k. search (rules, tests))) in
    (omega arith, above_one cs (λ k h. small k 0 (omega arith) h))
