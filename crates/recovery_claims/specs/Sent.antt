-- What becomes of the packets that an encoder wrote where the block is recovered.
use Rattle.std.specs.Borrow.{Bor}
use Rattle.std.specs.Prelude.{◌≡◌, ◌≤◌, ◌<◌, ◌∷◌, ◌++◌, Result, Ok}
use Rattle.words.specs.Words.{ℕ, List, length, [], get_or, take, Bool}
use Rattle.wire.specs.Answers.{Said, value, said}
use Rattle.wire.specs.Opening.{working_memory}
use Rattle.history.specs.History.{Call, source-call, repair-call, IsValue}
use Rattle.receiver.specs.Answers.{shown_of}
use Rattle.claims.specs.Run.{Step}
use Rattle.blocks.specs.declared.Block.{Block}
use Rattle.blocks.specs.Block.{block_of}
use Rattle.encoder_claims.specs.Run.{EncoderCall, added, repaired, EncoderRun, symbols_of}
use Rattle.block_receiver.specs.Reading.{reading}
use Rattle.block_receiver.specs.Promises.{Layout, SymbolShown, PartShown}
use Rattle.recovery_claims.specs.Run.{accepted}
use Rattle.recovery_claims.specs.Judged.{CallJudged, Recovers}
use Rattle.wire.specs.declared.Refusal.{Refusal}

-- A packet that the calls of an encoder wrote, given to the call of its kind, a source packet with the flow of its ADU.
pub data Wrote (l : List EncoderCall) : Call → Type 0 where
  wrote_source : (before after : List EncoderCall) (flow : ℕ) (adu out : List ℕ) (n : ℕ) (m' out' : List ℕ)
      → l ≡ before ++ (added flow adu out (Ok n) m' out' ∷ after) → Wrote l (source-call flow (take n out'))
  wrote_repair : (before after : List EncoderCall) (esi : ℕ) (out : List ℕ) (n : ℕ) (out' : List ℕ)
      → l ≡ before ++ (repaired esi out (Ok n) out' ∷ after) → Wrote l (repair-call (take n out'))

-- Every packet that a list of calls has accepted is one that the encoder wrote.
abbrev pub AsWritten : List EncoderCall → List Step → Type 0
AsWritten l ts = (before : List Step) (t : Step) (after : List Step) → ts ≡ before ++ (t ∷ after) → IsValue (said t.answer) → Wrote l t.call

-- Both ends were opened with the same numbers, and the list of packet calls has accepted only what the encoder wrote.
pub record Peers (L : Layout) (b : Block) (l : List EncoderCall) (ts : List Step) (m : List ℕ) : Type 0 where
  pub encoder : EncoderRun b.size b.k b.total b.number l
  pub named : block_of b.size b.k b.total b.number ≡ Ok b
  pub recovers : Recovers b L ts m
  pub written : AsWritten l ts

-- Then the next packet that it wrote is never refused, where working memory is long enough.
abbrev pub SentAccepted : Layout → Type 0
SentAccepted L =
    (b : Block) (l : List EncoderCall) (ts : List Step) (m : List ℕ) → Peers L b l ts m → (c : Call) → Wrote l c
    → (room : ℕ) → working_memory b.size b.k ≤ room → (a : Said) → CallJudged b (accepted b ts) (reading b room c) a → IsValue a

-- And what is shown of a source symbol that it took is that symbol.
abbrev pub SentShown : Layout → Type 0
SentShown L =
    (b : Block) (l : List EncoderCall) (ts : List Step) (m : List ℕ) → Peers L b l ts m → (e : ℕ) → e < length (symbols_of b.size l)
    → (a : Result Bool Refusal) → SymbolShown L m e a → said (shown_of a) ≡ value 0
    → (memory part : Bor (List ℕ)) → memory.now ≡ m → PartShown L memory part e → part.now ≡ get_or (symbols_of b.size l) e []
