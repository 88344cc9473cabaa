-- `block_receiver::symbol` meets its contract.
use Rattle.blocks.proofs.Stored.{handed_on}
use Rattle.block_receiver.proofs.Finding.{shown-found, shown_missing}
use Rattle.block_receiver.proofs.symbol.Goals as goal

pub returns-in_err-spot : goal.returns-in_err-spot
returns-in_err-spot c = rw (handed_on c.from_residual.ensures.1) (shown_missing _ _ _ _ c.in_err-spot.was c.find.ensures)

pub returns : goal.returns
returns c = shown-found _ _ _ _ c.in_ok-spot.was c.find.ensures
