-- `replay::end_packet` meets its contract.
use Rattle.words.specs.Words.{arith, refl}
use Rattle.replay.proofs.Ending.{packet-past, packet-read}
use Rattle.replay.proofs.end_packet.Goals as goal

pub returns-then-n-ge-MOST : goal.returns-then-n-ge-MOST
returns-then-n-ge-MOST c = packet-past _ _ _ _ _ _ (omega arith) c.if-n-ge-MOST.true refl

pub returns : goal.returns
returns c = packet-read _ _ _ _ _ _ _ _ _ _ c.if-n-ge-MOST.false c.answer_line-answer.ensures c.put_answer-next.ensures c.count.ensures
