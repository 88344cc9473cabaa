-- `block_receiver::symbol_part` meets its contract.
use Rattle.words.specs.Words.{◌∙◌}
use Rattle.memory.proofs.Parts.{part_none}
use Rattle.block_receiver.proofs.Finding.{at_bounded, part-found, part_missing}
use Rattle.block_receiver.proofs.symbol_part.Goals as goal

pub part-requires : goal.part-requires
part-requires c = at_bounded _ _ _ _ c.in-Ok.is c.find.ensures

pub returns-in-Ok : goal.returns-in-Ok
returns-in-Ok c = part-found _ _ _ _ _ c.in-Ok.is c.find.ensures c.part.ensures

pub returns-in-Err : goal.returns-in-Err
returns-in-Err c = part_missing _ _ _ _ _ c.in-Err.is c.find.ensures (c.part-in-Err.ensures.bytes ∙ part_none _ _)
