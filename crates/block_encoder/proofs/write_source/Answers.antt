-- `block_encoder::write_source` meets its contract.
use Rattle.block_encoder.proofs.Encoding.{source-written}
use Rattle.block_encoder.proofs.write_source.Goals as goal

pub returns : goal.returns
returns c =
    let a = c.args in
    source-written a.block a.esi c.identifier_of.result c.identifier_of.ensures a.adu.now a.out.now _ _ c.copy_part.ensures
    c.write.ensures
