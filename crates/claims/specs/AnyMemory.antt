-- What holds of memory (demand 1): on any memory, one that no call has left too, what each call of either end leaves as it was and where what it shows lies; on
-- memory that an end has opened, that calls keep to their sizes; and what refusal 3 names. By the promises alone: m, out and v are memory, output and working
-- memory, m', out' and v' these afterwards; a is the answer. The calls that show change no memory.
use Rattle.std.specs.Borrow.{Bor}
use Rattle.std.specs.Prelude.{◌≡◌, ◌≤◌, ◌+◌, ◌<◌, ◌≢◌, ◌⊎◌, Result, Ok, Err}
use Rattle.words.specs.Words.{ℕ, List, length, [], take}
use Rattle.memory.specs.Part.{LiesAt}
use Rattle.memory.specs.Contained.{Contained}
use Rattle.wire.specs.declared.Setting.{Setting}
use Rattle.wire.specs.declared.Refusal.{Refusal}
use Rattle.wire.specs.Settings.{Valid}
use Rattle.wire.specs.Packets.{zeros}
use Rattle.wire.specs.Answers.{Said, value, refusal, said}
use Rattle.wire.specs.Opening.{sender_memory, receiver_memory, working_memory}
use Rattle.sender.specs.Promises.{Adds, RepairMade}
use Rattle.sender.specs.Run.{SenderCall, SenderRun, memory_after}
use Rattle.history.specs.History.{Call}
use Rattle.receiver.specs.Answers.{answer_of, handed_said}
use Rattle.receiver.specs.Promises.{Layout, Opened, PacketAnswered, SymbolAnswered, PartShown, PlaceAnswered, AduAnswered}
use Rattle.receiver.specs.Layout.{receiver_layout}
use Rattle.claims.specs.Run.{Step, Run, final}
use Rattle.sender.specs.Answers as sender

-- ---- Any memory

-- A memory of n bytes is long enough for a sender, or a receiver, of a setting within its values.
pub record SenderFits (s : Setting) (n : ℕ) : Type 0 where
  pub values : Valid s
  pub room : sender_memory s.size s.width ≤ n

pub record ReceiverFits (s : Setting) (n : ℕ) : Type 0 where
  pub values : Valid s
  pub room : receiver_memory s.size s.width ≤ n

-- A call of a sender. A refusal leaves memory and output; else output past the n bytes written, for which it has room, and memory past the size of
-- some sender that it is long enough for are as they were.
pub record SenderKeeps (a : Said) (m out m' out' : List ℕ) : Type 0 where
  pub refused : (n : ℕ) → a ≡ refusal n → (m' ≡ m) × (out' ≡ out)
  pub output : (n : ℕ) → a ≡ value n → (n ≤ length out) × Contained n out out'
  pub memory : (n : ℕ) → a ≡ value n → (s : Setting) × SenderFits s (length m) × Contained (sender_memory s.size s.width) m m'

-- A packet call. A refusal leaves memory, and 3 working memory too; else both are as they were past the sizes of some receiver that memory is long
-- enough for. Count and draws are small.
pub record PacketKeeps (a : Result (ℕ × ℕ) Refusal) (m v m' v' : List ℕ) : Type 0 where
  pub refused : (n : ℕ) → said (answer_of a) ≡ refusal n → m' ≡ m
  pub unopened : said (answer_of a) ≡ refusal 3 → v' ≡ v
  pub within : said (answer_of a) ≢ refusal 3
      → (s : Setting) × ReceiverFits s (length m)
      × Contained (receiver_memory s.size s.width) m m' × Contained (working_memory s.size s.width) v v'
  pub small : (n d : ℕ) → a ≡ Ok (n, d) → (n ≤ 65535) × (d ≤ 69360)

-- The ADU call. A refusal leaves output; else output past the L bytes of the ADU, for which it has room, is as it was.
pub record AduKeeps (a : Result (ℕ × ℕ) Refusal) (out out' : List ℕ) : Type 0 where
  pub refused : (r : Refusal) → a ≡ Err r → out' ≡ out
  pub output : (flow L : ℕ) → a ≡ Ok (flow, L) → (L ≤ 65535) × (L ≤ length out) × Contained L out out'

-- E bytes from `at` on lie in a memory of n bytes, for the E of some receiver that it is long enough for.
pub record Lies (at : ℕ) (s : Setting) (n : ℕ) : Type 0 where
  pub fits : ReceiverFits s n
  pub inside : at + s.size ≤ n

-- Every call but opening, whatever it is given.
pub record AnyMemory (L : Layout) : Type 0 where
  pub adding : (flow : ℕ) (adu m out : List ℕ) (a : Result ℕ Refusal) (m' out' : List ℕ) → Adds flow adu m out a m' out' → SenderKeeps (said a) m out m' out'
  pub repairing : (key dt count : ℕ) (m out : List ℕ) (a : Result (ℕ × ℕ) Refusal) (out' : List ℕ) → RepairMade key dt count m out a out'
      → SenderKeeps (said (sender.answer_of a)) m out m out' × ((n d : ℕ) → a ≡ Ok (n, d) → (n ≤ 24008) × (d ≤ 69360))
  pub receiving : (c : Call) (m m' v v' : List ℕ) (a : Result (ℕ × ℕ) Refusal) → PacketAnswered L c m m' v v' a → PacketKeeps a m v m' v'
  -- The symbol call answers 0 or a refusal; the part is empty or lies in the memory; a place lies in it.
  pub symbol : (m : List ℕ) (e : ℕ) (a : Result ℕ Refusal) → SymbolAnswered L m e a → (n : ℕ) → said a ≡ value n → n ≡ 0
  pub part : (m part : Bor (List ℕ)) (e : ℕ) → PartShown L m part e
      → (part.now ≡ []) ⊎ ((at : ℕ) × (s : Setting) × Lies at s (length m.now) × LiesAt part m at s.size)
  pub place : (m : List ℕ) (e : ℕ) (a : Result ℕ Refusal) → PlaceAnswered L m e a → (at : ℕ) → said a ≡ value at → (s : Setting) × Lies at s (length m)
  pub adu : (m : List ℕ) (e : ℕ) (out out' : List ℕ) (a : Result (ℕ × ℕ) Refusal) → AduAnswered L m e out out' a → AduKeeps a out out'

-- ---- Memory of an end, lent whole: it has opened it, and only its calls have changed it since

-- A sender's memory: as a list of its calls left it, from an opening with this setting that answered 0.
pub record OfSender (t : Setting) (m : List ℕ) : Type 0 where
  pub calls : List SenderCall
  pub run : SenderRun t calls
  pub left : m ≡ memory_after run.after calls

-- A receiver's memory: as a list of packet calls left it, from an opening with this E and width that answered 0. Its other calls change no memory.
pub record OfReceiver (E width : ℕ) (m : List ℕ) : Type 0 where
  pub scheme : ℕ
  pub flows : List ℕ
  pub before : List ℕ
  pub after : List ℕ
  pub answer : Result ℕ Refusal
  pub opened : Opened receiver_layout scheme E width flows before after answer
  pub answered : said answer ≡ value 0
  pub calls : List Step
  pub run : Run receiver_layout after calls
  pub left : m ≡ final after calls

-- A packet call on a receiver's memory leaves memory and working memory past their sizes as they were (document 01, "Words and sizes").
abbrev pub WithinSizes : Type 0
WithinSizes =
    (E width : ℕ) (m : List ℕ) → OfReceiver E width m → (c : Call) (m' v v' : List ℕ) (a : Result (ℕ × ℕ) Refusal) → PacketAnswered receiver_layout c m m' v v' a
    → Contained (receiver_memory E width) m m' × Contained (working_memory E width) v v'

-- ---- What refusal 3 names (document 01, "Why a call says no"); that a 3 changes nothing is in `AnyMemory`

-- No receiver's memory: all zero, the first bytes of a sender's, few or all, or the first of a receiver's, fewer than its opening asked for.
pub data NoReceiver : List ℕ → Type 0 where
  all_zero_bytes : (n : ℕ) → NoReceiver (zeros n)
  of_sender : (t : Setting) (m : List ℕ) → OfSender t m → (n : ℕ) → NoReceiver (take n m)
  short_receiver : (E width : ℕ) (m : List ℕ) → OfReceiver E width m → (n : ℕ) → n < receiver_memory E width → NoReceiver (take n m)

-- No sender's memory, with the ends exchanged.
pub data NoSender : List ℕ → Type 0 where
  all_zeros : (n : ℕ) → NoSender (zeros n)
  of_receiver : (E width : ℕ) (m : List ℕ) → OfReceiver E width m → (n : ℕ) → NoSender (take n m)
  short_sender : (t : Setting) (m : List ℕ) → OfSender t m → (n : ℕ) → n < sender_memory t.size t.width → NoSender (take n m)

-- What a call of a receiver, or of a sender, may say on the memory m by its promise.
pub data ReceiverSays (m : List ℕ) : Said → Type 0 where
  by_packet : (c : Call) (m' v v' : List ℕ) (a : Result (ℕ × ℕ) Refusal) → PacketAnswered receiver_layout c m m' v v' a → ReceiverSays m (said (answer_of a))
  by_symbol : (e : ℕ) (a : Result ℕ Refusal) → SymbolAnswered receiver_layout m e a → ReceiverSays m (said a)
  by_place : (e : ℕ) (a : Result ℕ Refusal) → PlaceAnswered receiver_layout m e a → ReceiverSays m (said a)
  by_adu : (e : ℕ) (out out' : List ℕ) (a : Result (ℕ × ℕ) Refusal) → AduAnswered receiver_layout m e out out' a → ReceiverSays m (handed_said a)

pub data SenderSays (m : List ℕ) : Said → Type 0 where
  by_add : (flow : ℕ) (adu out : List ℕ) (a : Result ℕ Refusal) (m' out' : List ℕ) → Adds flow adu m out a m' out' → SenderSays m (said a)
  by_repair : (key dt count : ℕ) (out : List ℕ) (a : Result (ℕ × ℕ) Refusal) (out' : List ℕ) → RepairMade key dt count m out a out'
      → SenderSays m (said (sender.answer_of a))

-- Where the calls of an end say 3, and where they never do.
pub record Unopened : Type 0 where
  -- On memory that is not of its end every call says 3, and the part is empty.
  pub no_receiver : (m : List ℕ) → NoReceiver m → (x : Said) → ReceiverSays m x → x ≡ refusal 3
  pub no_part : (m part : Bor (List ℕ)) → NoReceiver m.now → (e : ℕ) → PartShown receiver_layout m part e → part.now ≡ []
  pub no_sender : (m : List ℕ) → NoSender m → (x : Said) → SenderSays m x → x ≡ refusal 3
  -- On memory of its end none does.
  pub receiver : (E width : ℕ) (m : List ℕ) → OfReceiver E width m → (x : Said) → ReceiverSays m x → x ≢ refusal 3
  pub sender : (t : Setting) (m : List ℕ) → OfSender t m → (x : Said) → SenderSays m x → x ≢ refusal 3
