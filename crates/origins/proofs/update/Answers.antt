-- `origins::update` meets its contract.
use Rattle.words.specs.Words.{arith}
use Rattle.origins.proofs.Filling.{only_fits, updated}
use Rattle.origins.proofs.update.Goals as goal

pub fill-requires-2 : goal.fill-requires-2
fill-requires-2 c =
    let only = c.fill.ensures.only in
    (only_fits c.requires.0 only, omega (arith, only.size), c.requires.2, c.requires.4)

pub returns : goal.returns
returns c =
    updated _ _ _ _ _ _ _ _ _ _ _ c.fill.ensures c.fill-2.ensures (omega arith) c.requires.4 (omega arith)
