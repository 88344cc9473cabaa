-- `handing::symbol_of` meets its contract.
use Rattle.handing.proofs.Copying.{symbol_found}
use Rattle.handing.proofs.symbol_of.Goals as goal

pub returns : goal.returns
returns c = symbol_found _ _ _ _ _ _ c.row_of-r.ensures c.symbol_offset.ensures
