-- An encoder's calls that add an ADU are judged as the claims say.
-- Index
--   refuses, writes: what an outcome says
--   adds_judged
use Rattle.std.specs.Prelude.{◌≡◌, ◌+◌, Result}
use Rattle.words.specs.Words.{arith, ℕ, List, length, refl, subst, le-leb, lt-leb}
use Rattle.memory.specs.Part.{splice}
use Rattle.wire.specs.Answers.{said}
use Rattle.blocks.specs.declared.Block.{Block}
use Rattle.blocks.specs.Block.{Valid}
use Rattle.blocks.specs.Identifiers.{source_packet}
use Rattle.blocks.proofs.Values.{block_from}
use Rattle.block_encoder.specs.State.{Encoder, Holds}
use Rattle.block_encoder.specs.Calls.{Outcome, refused, adding}
use Rattle.block_encoder.specs.Promises.{DoneWith, Follows, Adds}
use Rattle.block_encoder.proofs.Promising.{adding_short, adding_full, adding-long, adding_done}
use Rattle.encoder_claims.specs.Judged.{Refuses, Writes, AduJudged}
use Rattle.encoder_claims.proofs.Running.{holding}
use Rattle.wire.specs.declared.Refusal.{Refusal}

-- ---- What an outcome says

-- A call that came to a refusal.
pub refuses : (n : ℕ) (o : Outcome) (m m' out out' : List ℕ) (r : Result ℕ Refusal) → o ≡ refused n → Follows o m out r m' out' → Refuses n (said r) m m' out out'
refuses n o m m' out out' r e f =
    let g : Follows (refused n) m out r m' out' = subst (λ x. Follows x m out r m' out') e f in
    record { answer = g.answer; memory = g.memory; output = g.output }

-- A call that wrote a packet.
pub writes : (packet : List ℕ) (s : Encoder) (m m' out out' : List ℕ) (r : Result ℕ Refusal) → DoneWith packet s m out r m' out' → Writes packet (said r) out out'
unfolding splice
writes packet s m m' out out' r g = record { answer = g.answer; output = g.output }

module _ (E k total number : ℕ) (v : Valid (block_from E k total number)) (xs : List (List ℕ)) where
  abbrev block : Block
  block = block_from E k total number

  abbrev encoder : Encoder
  encoder = holding E k total number xs

  -- ---- Adding an ADU

  pub adds_judged : (flow : ℕ) (adu m out : List ℕ) (r : Result ℕ Refusal) (m' out' : List ℕ) → Holds m encoder → Adds flow adu m out r m' out'
      → AduJudged E k total number xs m adu out (said r) m' out'
  unfolding source_packet
  adds_judged flow adu m out r m' out' h p =
      let o = adding encoder flow adu (length out) in
      let f = p.follows encoder h in
      let room = le-leb (length adu + 6) (length out) in
      record {
        short = λ l. refuses 2 o m m' out out' r (adding_short flow adu (length out) encoder (lt-leb (length adu + 6) (length out) l)) f;
        full = λ l n. refuses 18 o m m' out out' r (adding_full flow adu (length out) encoder (room l) block refl (length xs) refl n) f;
        long = λ l n g. refuses 4 o m m' out out' r (adding-long flow adu (length out) encoder (room l) block refl (length xs) refl n g) f;
        takes = λ l n g.
            let e = adding_done flow adu (length out) encoder (room l) block refl (length xs) refl n g in
            let d = subst (λ x. Follows x m out r m' out') e f in
            (writes _ _ m m' out out' r d, d.memory);
      }
