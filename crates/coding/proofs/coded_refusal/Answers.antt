-- `coding::coded_refusal` meets its contract.
use Rattle.words.specs.Words.{arith, ◌∙◌, ap}
use Rattle.wire.specs.Answers.{refusal}
use Rattle.coding.specs.Coding.{coded}
use Rattle.coding.proofs.Coding.{handed, negated, negated_fits}
use Rattle.coding.proofs.coded_refusal.Goals as goal

pub overflow_sub-result : goal.overflow_sub-result
overflow_sub-result c = record { sfits = negated_fits c.from.result (omega arith) }

pub returns : goal.returns
returns c =
    let n = c.from in
    handed (negated_fits n.result (omega arith)) (negated n.result (omega arith) ∙ ap (λ x. coded (refusal x)) n.ensures)
