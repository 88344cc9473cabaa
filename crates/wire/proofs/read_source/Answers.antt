-- `wire::read_source` meets its contract.
use Rattle.words.specs.Words.{arith}
use Rattle.wire.specs.Packets.{source_esi}
use Rattle.wire.proofs.Headers.{no_source, source-read}
use Rattle.wire.proofs.read_source.Goals as goal

pub returns-then-packet-lt4 : goal.returns-then-packet-lt4
returns-then-packet-lt4 c = no_source _ (omega arith)

pub returns : goal.returns
unfolding source_esi
returns c = rw c.load_u32.ensures (source-read c.args.packet.now (omega arith))
