-- What holds on any memory, one that no call has left too: what each call of a block's two ends leaves as it was, and where what it shows lies. By the promises
-- alone: m, out and v are memory, output and working memory, m', out' and v' these afterwards; a is the answer. The calls that show change no memory.
use Rattle.std.specs.Borrow.{Bor}
use Rattle.std.specs.Prelude.{◌≡◌, ◌≤◌, ◌+◌, ◌≢◌, ◌⊎◌, Result, Ok}
use Rattle.words.specs.Words.{ℕ, length, List, [], Bool}
use Rattle.memory.specs.Part.{LiesAt}
use Rattle.memory.specs.Contained.{Contained}
use Rattle.wire.specs.Answers.{Said, value, refusal, said}
use Rattle.wire.specs.Opening.{receiver_memory, working_memory}
use Rattle.history.specs.History.{Call}
use Rattle.receiver.specs.Answers.{answer_of, shown_of}
use Rattle.blocks.specs.declared.Block.{Block}
use Rattle.blocks.specs.Block.{Valid}
use Rattle.block_encoder.specs.Promises.{Adds, Makes}
use Rattle.block_receiver.specs.Promises.{PacketAnswered, SymbolShown, PartShown, PlaceAnswered}
use Rattle.block_receiver.specs.Layout.{block_layout}
use Rattle.wire.specs.declared.Refusal.{Refusal}

-- A memory of n bytes is long enough for a block within its values.
pub record BlockFits (b : Block) (n : ℕ) : Type 0 where
  pub values : Valid b
  pub room : receiver_memory b.size b.k ≤ n

-- A call of an encoder. A refusal leaves memory and output; else output past the n bytes written, for which it has room, and memory past the size of some block
-- that it is long enough for are as they were.
pub record EncoderKeeps (a : Said) (m out m' out' : List ℕ) : Type 0 where
  pub refused : (n : ℕ) → a ≡ refusal n → (m' ≡ m) × (out' ≡ out)
  pub output : (n : ℕ) → a ≡ value n → (n ≤ length out) × Contained n out out'
  pub memory : (n : ℕ) → a ≡ value n → (b : Block) × BlockFits b (length m) × Contained (receiver_memory b.size b.k) m m'

-- A packet call. A refusal leaves memory, and 3 working memory too; else both are as they were past the sizes of some block that memory is long enough for.
-- The count is small, and there are no draws.
pub record RecoveryKeeps (a : Result (ℕ × ℕ) Refusal) (m v m' v' : List ℕ) : Type 0 where
  pub refused : (n : ℕ) → said (answer_of a) ≡ refusal n → m' ≡ m
  pub unopened : said (answer_of a) ≡ refusal 3 → v' ≡ v
  pub within : said (answer_of a) ≢ refusal 3
      → (b : Block) × BlockFits b (length m)
      × Contained (receiver_memory b.size b.k) m m' × Contained (working_memory b.size b.k) v v'
  pub small : (n d : ℕ) → a ≡ Ok (n, d) → (n ≤ 65535) × (d ≡ 0)

-- E bytes from `at` on lie in a memory of n bytes, for the E of some block that it is long enough for.
pub record Lies (at : ℕ) (b : Block) (n : ℕ) : Type 0 where
  pub fits : BlockFits b n
  pub inside : at + b.size ≤ n

-- Every call but opening, whatever it is given.
pub record AnyMemory : Type 0 where
  pub adding : (flow : ℕ) (adu m out : List ℕ) (a : Result ℕ Refusal) (m' out' : List ℕ) → Adds flow adu m out a m' out' → EncoderKeeps (said a) m out m' out'
  pub repairing : (esi : ℕ) (m out : List ℕ) (a : Result ℕ Refusal) (out' : List ℕ) → Makes esi m out a out' → EncoderKeeps (said a) m out m out'
  pub receiving : (c : Call) (m m' v v' : List ℕ) (a : Result (ℕ × ℕ) Refusal) → PacketAnswered block_layout c m m' v v' a → RecoveryKeeps a m v m' v'
  -- The symbol call answers 0 or a refusal; the part is empty or lies in the memory; a place lies in it.
  pub symbol : (m : List ℕ) (e : ℕ) (a : Result Bool Refusal) → SymbolShown block_layout m e a → (n : ℕ) → said (shown_of a) ≡ value n → n ≡ 0
  pub part : (m shown : Bor (List ℕ)) (e : ℕ) → PartShown block_layout m shown e
      → (shown.now ≡ []) ⊎ ((at : ℕ) × (b : Block) × Lies at b (length m.now) × LiesAt shown m at b.size)
  pub place : (m : List ℕ) (e : ℕ) (a : Result ℕ Refusal) → PlaceAnswered block_layout m e a → (at : ℕ) → said a ≡ value at → (b : Block) × Lies at b (length m)
