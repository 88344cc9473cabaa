-- Memory that was opened for one of the four kinds of end gives 3 to the calls of the others (document 02, No. 9). By the promises alone.
use Rattle.std.specs.Borrow.{Bor}
use Rattle.std.specs.Prelude.{◌≡◌, ◌<◌, ◌≢◌, Result}
use Rattle.words.specs.Words.{ℕ, List, take, [], Bool}
use Rattle.wire.specs.declared.Setting.{Setting}
use Rattle.wire.specs.Answers.{Said, value, refusal, said}
use Rattle.wire.specs.Opening.{receiver_memory}
use Rattle.wire.specs.Packets.{zeros}
use Rattle.history.specs.History.{Call}
use Rattle.receiver.specs.Answers.{answer_of, shown_of}
use Rattle.claims.specs.Run.{Step, final}
use Rattle.claims.specs.AnyMemory.{OfSender, OfReceiver, SenderSays, ReceiverSays}
use Rattle.block_encoder.specs.Promises.{Adds, Makes}
use Rattle.block_receiver.specs.Promises.{Opened, PacketAnswered, SymbolShown, PartShown, PlaceAnswered}
use Rattle.block_receiver.specs.Layout.{block_layout}
use Rattle.encoder_claims.specs.Run.{EncoderCall, EncoderRun, memory_after}
use Rattle.recovery_claims.specs.Run.{Run}
use Rattle.wire.specs.declared.Refusal.{Refusal}

-- A memory of an encoder, and of a recovery, of a block of k source symbols of E bytes: as a list of its calls left it, from an opening that answered 0.
pub record OfEncoder (E k : ℕ) (m : List ℕ) : Type 0 where
  pub total : ℕ
  pub number : ℕ
  pub calls : List EncoderCall
  pub run : EncoderRun E k total number calls
  pub left : m ≡ memory_after run.after calls

pub record OfRecovery (E k : ℕ) (m : List ℕ) : Type 0 where
  pub total : ℕ
  pub number : ℕ
  pub before : List ℕ
  pub after : List ℕ
  pub answer : Result ℕ Refusal
  pub opened : Opened block_layout E k total number before after answer
  pub answered : said answer ≡ value 0
  pub calls : List Step
  pub run : Run block_layout after calls
  pub left : m ≡ final after calls

-- What a call of an encoder, or of a recovery, may say on the memory m by its promise.
pub data EncoderSays (m : List ℕ) : Said → Type 0 where
  by_add : (flow : ℕ) (adu out : List ℕ) (a : Result ℕ Refusal) (m' out' : List ℕ) → Adds flow adu m out a m' out' → EncoderSays m (said a)
  by_repair : (esi : ℕ) (out : List ℕ) (a : Result ℕ Refusal) (out' : List ℕ) → Makes esi m out a out' → EncoderSays m (said a)

pub data RecoverySays (m : List ℕ) : Said → Type 0 where
  by_packet : (c : Call) (m' v v' : List ℕ) (a : Result (ℕ × ℕ) Refusal) → PacketAnswered block_layout c m m' v v' a → RecoverySays m (said (answer_of a))
  by_symbol : (e : ℕ) (a : Result Bool Refusal) → SymbolShown block_layout m e a → RecoverySays m (said (shown_of a))
  by_place : (e : ℕ) (a : Result ℕ Refusal) → PlaceAnswered block_layout m e a → RecoverySays m (said a)

-- The four kinds of end: whose memory it is, and what that end's calls may say on it.
pub data Kind : Type 0 where
  sender : Kind
  receiver : Kind
  encoder : Kind
  recovery : Kind

abbrev pub Of : Kind → List ℕ → Type 0
Of sender m = (t : Setting) × OfSender t m
Of receiver m = (E : ℕ) × (width : ℕ) × OfReceiver E width m
Of encoder m = (E : ℕ) × (k : ℕ) × OfEncoder E k m
Of recovery m = (E : ℕ) × (k : ℕ) × OfRecovery E k m

abbrev pub Says : Kind → List ℕ → Said → Type 0
Says sender m x = SenderSays m x
Says receiver m x = ReceiverSays m x
Says encoder m x = EncoderSays m x
Says recovery m x = RecoverySays m x

pub record FourKinds : Type 0 where
  -- On the first bytes of another kind's memory, few or all, every call says 3; on memory of its own kind none does.
  pub others : (kind other : Kind) (m : List ℕ) → kind ≢ other → Of kind m → (n : ℕ) (x : Said) → Says other (take n m) x → x ≡ refusal 3
  pub own : (kind : Kind) (m : List ℕ) → Of kind m → (x : Said) → Says kind m x → x ≢ refusal 3
  -- And 3 on all_zero_bytes memory; and on the first bytes of a recovery's, fewer than its opening asked for.
  pub zero : (kind : Kind) (n : ℕ) (x : Said) → Says kind (zeros n) x → x ≡ refusal 3
  pub short : (E k : ℕ) (m : List ℕ) → OfRecovery E k m → (n : ℕ) → n < receiver_memory E k → (x : Said) → RecoverySays (take n m) x → x ≡ refusal 3
  -- Where the calls of a recovery say 3, its part is empty.
  pub part : (m part : Bor (List ℕ)) → ((x : Said) → RecoverySays m.now x → x ≡ refusal 3) → (e : ℕ) (a : Result Bool Refusal) → SymbolShown block_layout m.now e a
      → PartShown block_layout m part e → part.now ≡ []
