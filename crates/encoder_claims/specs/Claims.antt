-- All that is claimed of an encoder's calls, from an opening on.
use Rattle.std.specs.Prelude.{◌≡◌, ◌≤◌, ◌+◌, ◌<◌, ◌-◌, ◌∷◌, ◌++◌, Result}
use Rattle.words.specs.Words.{ℕ, List, length, [], Some, take, map}
use Rattle.memory.specs.Number.{bytes, Bytes}
use Rattle.wire.specs.declared.Setting.{Setting}
use Rattle.wire.specs.Answers.{Said, said}
use Rattle.wire.specs.Opening.{receiver_memory}
use Rattle.wire.specs.Packets.{zeros, source_symbols}
use Rattle.wire.specs.Stored.{setting_in}
use Rattle.block_encoder.specs.Promises.{Adds, Makes}
use Rattle.encoder_claims.specs.Run.{EncoderCall, added, repaired, memory_after, EncoderRun}
use Rattle.encoder_claims.specs.Judged.{Refuses, SizeAllowed, BlockAllowed, CallsJudged, OpeningIsJudged, EncoderJudged}
use Rattle.wire.specs.declared.Refusal.{Refusal}

-- What a call is given, with the output lent.
pub data Given : Type 0 where
  adding : (flow : ℕ) (adu out : List ℕ) → Given
  repairing : (esi : ℕ) (out : List ℕ) → Given

abbrev pub given : EncoderCall → Given
given (added flow adu out r m' out') = adding flow adu out
given (repaired esi out r out') = repairing esi out

-- What is seen of a call: the answer, and the output after it.
pub record Seen : Type 0 where
  pub answer : Said
  pub output : List ℕ

abbrev pub seen : EncoderCall → Seen
seen (added flow adu out r m' out') = record { answer = said r; output = out' }
seen (repaired esi out r out') = record { answer = said r; output = out' }

-- An ADU that is taken is one source symbol: its flow, its length in two bytes, its bytes, and zero bytes up to E. So the ESI of a source packet, which is
-- the number of source symbols taken before, is the number of ADUs taken before.
abbrev pub OneSymbol : Type 0
OneSymbol =
    (flow : ℕ) (adu : List ℕ) (E : ℕ) → 3 + length adu ≤ E
    → source_symbols flow adu E ≡ (flow ∷ bytes 2 (length adu) ++ (adu ++ zeros (E - (3 + length adu)))) ∷ []

-- Two encoders of the same block whose calls are judged so answer and write alike.
abbrev pub NoChoice : Type 0
NoChoice =
    (E k total number : ℕ) (m n : List ℕ) (c d : List EncoderCall) → map given c ≡ map given d
    → CallsJudged E k total number m c → CallsJudged E k total number n d → map seen c ≡ map seen d

-- Flow and ADU are bytes.
abbrev pub OfBytes : List Given → Type 0
OfBytes [] = Unit {0}
OfBytes (adding flow adu out ∷ gs) = (flow < 256) × Bytes adu × OfBytes gs
OfBytes (repairing esi out ∷ gs) = OfBytes gs

-- From an opening on any memory that is long enough every list of calls has a run.
abbrev pub RunsExist : Type 0
RunsExist =
    (E k total number : ℕ) → SizeAllowed E → BlockAllowed k total number
    → (m : List ℕ) → receiver_memory E k ≤ length m → (gs : List Given) → OfBytes gs
    → (l : List EncoderCall) × (r : EncoderRun E k total number l) × (r.before ≡ m) × (map given l ≡ gs)

-- Both calls answer 3 on the memory m, and leave memory and output.
pub record SaysThree (m : List ℕ) : Type 0 where
  pub adds : (flow : ℕ) (adu out : List ℕ) (r : Result ℕ Refusal) (m' out' : List ℕ) → Adds flow adu m out r m' out' → Refuses 3 (said r) m m' out out'
  pub makes : (esi : ℕ) (out : List ℕ) (r : Result ℕ Refusal) (out' : List ℕ) → Makes esi m out r out' → Refuses 3 (said r) m m out out'

-- So they do on all_zero_bytes memory; on memory with the header of another kind of end (3 encodes a block); and on an encoder's memory, after any calls, that is cut
-- shorter than its opening asked for.
pub record Three : Type 0 where
  pub zero : (n : ℕ) → SaysThree (zeros n)
  pub other : (kind : ℕ) (s : Setting) (m : List ℕ) → ¬ (kind ≡ 3) → setting_in kind m ≡ Some s → SaysThree m
  pub cut : (E k total number : ℕ) (l : List EncoderCall) (r : EncoderRun E k total number l) (n : ℕ) → n < receiver_memory E k
      → SaysThree (take n (memory_after r.after l))

-- All claims of the encoder.
pub record EncoderClaims : Type 0 where
  pub opening : OpeningIsJudged
  pub judged : EncoderJudged
  pub one_symbol : OneSymbol
  pub no_choice : NoChoice
  pub runs_exist : RunsExist
  pub three : Three
