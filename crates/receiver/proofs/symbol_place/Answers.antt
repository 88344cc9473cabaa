-- `receiver::symbol_place` meets its contract.
use Rattle.admission.proofs.Locating.{handed_on}
use Rattle.receiver.proofs.Placing.{place_found, place_missing}
use Rattle.receiver.proofs.symbol_place.Goals as goal

pub returns-in_err-find : goal.returns-in_err-find
returns-in_err-find c = rw (handed_on c.from_residual.ensures.1) (place_missing _ _ _ c.in_err-find.ensures)

pub returns : goal.returns
returns c = place_found _ _ _ c.in_ok-find.ensures
