-- What the public calls of an encoder promise: of the answer, of every byte of output and memory, and of the encoder that the memory holds afterwards.
-- m, out and r are memory, output and answer; m' and out' memory and output afterwards.
use Rattle.std.specs.Prelude.{◌≡◌, ◌≤◌, Result}
use Rattle.words.specs.Words.{ℕ, List, length, [], Some, None}
use Rattle.memory.specs.Part.{splice}
use Rattle.memory.specs.Contained.{Contained}
use Rattle.wire.specs.Answers.{Said, value, refusal, said}
use Rattle.history.specs.History.{memory_size}
use Rattle.blocks.specs.declared.Block.{Block}
use Rattle.blocks.specs.Block.{setting_for}
use Rattle.blocks.specs.Stored.{block_in}
use Rattle.block_encoder.specs.State.{Encoder, Holds}
use Rattle.block_encoder.specs.Calls.{Outcome, refused, done, opening, adding, repairing}
use Rattle.wire.specs.declared.Refusal.{Refusal}

-- The refusal n: memory and output are as they were.
pub record RefusedWith (n : ℕ) (m out : List ℕ) (r : Result ℕ Refusal) (m' out' : List ℕ) : Type 0 where
  pub answer : said r ≡ refusal n
  pub memory : m' ≡ m
  pub output : out' ≡ out

-- The packet was written at the front of the output, the answer is its length, and the memory holds e; the rest of the output, and the memory past the size
-- that the block needs, are as they were.
pub record DoneWith (packet : List ℕ) (e : Encoder) (m out : List ℕ) (r : Result ℕ Refusal) (m' out' : List ℕ) : Type 0 where
  pub answer : said r ≡ value (length packet)
  pub output : out' ≡ splice 0 packet out
  pub holds : Holds m' e
  pub memory : Contained (memory_size (setting_for e.block)) m m'

-- The call did what it comes to.
abbrev pub Follows : Outcome → (m out : List ℕ) (r : Result ℕ Refusal) (m' out' : List ℕ) → Type 0
Follows (refused n) m out r m' out' = RefusedWith n m out r m' out'
Follows (done packet e) m out r m' out' = DoneWith packet e m out r m' out'

-- What an answer leaves as it was: output past the bytes written, for which it has room; all of memory and output where it is a refusal, which is not 3.
abbrev pub Leaves : Said → (m out m' out' : List ℕ) → Type 0
Leaves (value n) m out m' out' = (n ≤ length out) × Contained n out out'
Leaves (refusal n) m out m' out' = (n ≡ 3 → ⊥) × (m' ≡ m) × (out' ≡ out)

-- Memory past the size that the block needs is as it was, and so is what the answer leaves.
pub record Kept (b : Block) (m out : List ℕ) (r : Result ℕ Refusal) (m' out' : List ℕ) : Type 0 where
  pub memory : Contained (memory_size (setting_for b)) m m'
  pub leaves : Leaves (said r) m out m' out'

-- A call that comes to f of the encoder, on any memory: refusal 3 where it was not opened to encode; kept where it was; and f where it holds an encoder.
pub record Promise (f : Encoder → Outcome) (m out : List ℕ) (r : Result ℕ Refusal) (m' out' : List ℕ) : Type 0 where
  pub unopened : block_in 3 m ≡ None → RefusedWith 3 m out r m' out'
  pub kept : (b : Block) → block_in 3 m ≡ Some b → Kept b m out r m' out'
  pub follows : (e : Encoder) → Holds m e → Follows (f e) m out r m' out'

-- ---- Each call

-- Opening, which has no output.
abbrev pub Opens : (E k total number : ℕ) (m : List ℕ) (r : Result ℕ Refusal) (m' : List ℕ) → Type 0
Opens E k total number m r m' = Follows (opening E k total number (length m)) m [] r m' []

-- Adding an ADU.
abbrev pub Adds : (flow : ℕ) (adu m out : List ℕ) (r : Result ℕ Refusal) (m' out' : List ℕ) → Type 0
Adds flow adu m out r m' out' = Promise (λ e. adding e flow adu (length out)) m out r m' out'

-- Making repair, which leaves the memory.
abbrev pub Makes : (esi : ℕ) (m out : List ℕ) (r : Result ℕ Refusal) (out' : List ℕ) → Type 0
Makes esi m out r out' = Promise (λ e. repairing e esi (length out)) m out r m out'
