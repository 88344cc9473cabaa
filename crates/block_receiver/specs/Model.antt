-- The block that computes: the packets' equations over its k positions, in reduced row echelon form (crate `decoder`), in place of the packets.
-- The promises give answers and states by it. That these are the history's is proved (crate `recovery`, proofs/Tracking): a reader of the claims need not
-- believe it.
use Rattle.words.specs.Words.{ℕ, Some, None, Option, cond, ltb}
use Rattle.decoder.specs.Bytes.{Coded}
use Rattle.decoder.specs.Receiver.{empty, newly}
use Rattle.history.specs.Symbol.{Symbol}
use Rattle.history.specs.History.{Call}
use Rattle.history.specs.Model.{Finding, shows, hides, Origins, bringing}
use Rattle.wire.specs.Answers.{Said, value, refusal}
use Rattle.recovery.specs.Block.{Packet}
use Rattle.recovery.specs.Model.{equation_of}
use Rattle.blocks.specs.declared.Block.{Block}
use Rattle.block_receiver.specs.Reading.{Reading, fails, located, reading}
use Rattle.decoder.specs.Model as decoder

-- A block's system of equations; and that of a block of which nothing was received.
abbrev pub System : Block → Type 0
System b = decoder.State (Coded b.size) b.k

abbrev pub opened : (b : Block) → System b
opened b = empty (Coded b.size) b.k

-- What a packet call comes to: the number of a refusal; or how many source symbols have become known, and the system after it.
pub data Outcome (b : Block) : Type 0 where
  refused : ℕ → Outcome b
  done : ℕ → System b → Outcome b

module _ {b : Block} where
  abbrev pub said_of : Outcome b → Said
  said_of (refused n) = refusal n
  said_of (done n S) = value n

  abbrev pub state_after : System b → Outcome b → System b
  state_after S (refused n) = S
  state_after S (done n T) = T

module _ (b : Block) where
  abbrev pub added : System b → Option (System b) → Outcome b
  added S None = refused 11
  added S (Some T) = done (newly (record { base = 0; window = S }) (record { base = 0; window = T })) T

  -- A call of which the checks before 11 have made this.
  abbrev pub responds : System b → Reading → Outcome b
  responds S (fails n) = refused n
  responds S (located p) = added S (decoder.insert S (equation_of b.size b.k p))

  -- A packet call that is lent `room` bytes of working memory.
  unfoldable pub receiving : System b → (room : ℕ) → Call → Outcome b
  receiving S room c = responds S (reading b room c)

  -- The symbol call for the ESI e: 12 for k and more, or where it is not known.
  abbrev pub shown : (e : ℕ) → Option (Symbol b.size) → Finding b.size
  shown e None = hides 12
  shown e (Some v) = shows e v

  unfoldable pub finding : System b → (e : ℕ) → Finding b.size
  finding S e = cond (ltb e b.k) (shown e (decoder.known S e)) (hides 12)

  -- Which source symbols are heard after a packet, and after a call of which the checks before 11 have made this, and which has come to that.
  abbrev pub hearing : Packet → Origins → Origins
  hearing p H = cond (ltb p.esi b.k) (bringing p.esi 1 H) H

  abbrev pub origins_after : Reading → Outcome b → Origins → Origins
  origins_after (located p) (done n S) H = hearing p H
  origins_after (located p) (refused n) H = H
  origins_after (fails m) o H = H
