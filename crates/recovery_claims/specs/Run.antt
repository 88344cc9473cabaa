-- A list of packet calls to recover a block, each as its promise allows (without the draws: `answer_of`), and the packets that the list has accepted.
use Rattle.std.specs.Prelude.{◌∷◌}
use Rattle.words.specs.Words.{ℕ, List, length, []}
use Rattle.history.specs.History.{OfBytes}
use Rattle.wire.specs.Answers.{Said, value, refusal, said}
use Rattle.claims.specs.Run.{Step}
use Rattle.recovery.specs.Block.{Packet}
use Rattle.blocks.specs.declared.Block.{Block}
use Rattle.block_receiver.specs.Reading.{Reading, fails, located, reading}
use Rattle.block_receiver.specs.Promises.{Layout, Received}

-- The calls one after the other, the first on the memory m, each on the memory that the last left.
abbrev pub Run : Layout → List ℕ → List Step → Type 0
Run L m [] = Unit {0}
Run L m (t ∷ ts) = OfBytes t.call × Received L t.call m t.memory t.working t.left t.answer × Run L t.memory ts

-- The packets accepted after a call of which the checks before 11 have made this, and which answered so, the last first: a packet is accepted when its call
-- answers a count and no refusal.
abbrev pub logged : List Packet → Reading → Said → List Packet
logged ps (located p) (value n) = p ∷ ps
logged ps (located p) (refusal n) = ps
logged ps (fails m) a = ps

module _ (b : Block) where
  -- What the checks before 11 make of a call.
  abbrev pub read : Step → Reading
  read t = reading b (length t.working) t.call

  -- The packets that a list of calls has accepted, from their packets and answers alone.
  abbrev pub goes_on : List Packet → List Step → List Packet
  goes_on ps [] = ps
  goes_on ps (t ∷ ts) = goes_on (logged ps (read t) (said t.answer)) ts

  abbrev pub accepted : List Step → List Packet
  accepted ts = goes_on [] ts
