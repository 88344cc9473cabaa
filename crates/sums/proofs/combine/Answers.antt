-- `sums::combine` meets its contract.
use Rattle.sums.proofs.combine.Goals as goal

pub returns : goal.returns
returns c = rw (c.fill.auto.self, c.fill.ensures.after (λ y e. e)) at c.add_combination.ensures
