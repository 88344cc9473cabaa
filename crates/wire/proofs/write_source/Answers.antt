-- `wire::write_source` meets its contract.
use Rattle.words.specs.Words.{length, refl}
use Rattle.memory.specs.Number.{bytes}
use Rattle.memory.proofs.Parts.{whole}
use Rattle.wire.specs.Packets.{source_packet}
use Rattle.wire.proofs.Adui.{front_next}
use Rattle.wire.proofs.write_source.Goals as goal

pub returns : goal.returns
unfolding source_packet
returns c =
    let a = c.args in
    cc (whole (length a.adu.now) a.adu.now refl, front_next (length a.adu.now) a.adu.now (bytes 4 a.first.0) a.out.now refl)
