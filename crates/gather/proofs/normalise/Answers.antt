-- `gather::normalise` meets its contract.
use Rattle.words.specs.Words.{arith, refl}
use Rattle.gather.proofs.Admitting.{normalised}
use Rattle.gather.proofs.normalise.Goals as goal
use Rattle.gather.proofs.normalise.Goals.{After-row_offset-at}

pub returns : goal.returns
returns c =
    let a = c.args in
    let at = c.row_offset-at in
    let divided = c.divide in
    normalised a.shape.width a.shape.size a.k a.c at.result a.work.now divided.new.work _ c.requires.0 (omega arith)
    (λ i. ((goal.at.returns c).After-row_offset-at.type_inv.work i).fits) at.ensures.start divided.ensures refl
