-- `receiver::symbol` meets its contract.
use Rattle.admission.proofs.Locating.{handed_on}
use Rattle.receiver.proofs.Showing.{shown-found, shown_missing}
use Rattle.receiver.proofs.symbol.Goals as goal

pub returns-in_err-find : goal.returns-in_err-find
returns-in_err-find c = rw (handed_on c.from_residual.ensures.1) (shown_missing _ _ _ c.in_err-find.ensures)

pub returns : goal.returns
returns c = shown-found _ _ _ c.in_ok-find.ensures
