-- `receiver::adu` meets its contract.
use Rattle.admission.proofs.Locating.{handed_on}
use Rattle.holding.proofs.Standing.{stood, looks, hidden}
use Rattle.receiver.proofs.Giving.{adu-outside, adu-inside}
use Rattle.receiver.proofs.adu.Goals as goal

pub hand_out-requires : goal.hand_out-requires
hand_out-requires c = let l = looks (stood _ _ _ _ c.stand.ensures c.in_ok-shape.was) in (l.fits, l.oldest, l.inside)

pub returns-in_err-shape : goal.returns-in_err-shape
returns-in_err-shape c = rw (handed_on c.from_residual.ensures.1) (adu-outside _ _ _ _ (hidden _ _ _ c.stand.ensures c.in_err-shape.was))

pub returns : goal.returns
returns c = adu-inside _ _ _ _ _ (stood _ _ _ _ c.stand.ensures c.in_ok-shape.was) _ _ c.hand_out.ensures
