-- What the public calls of a sender promise: of the answer, of every byte of output and memory, and of the sender that the memory holds afterwards.
-- m, out and r are memory, output and answer; m' and out' memory and output afterwards.
use Rattle.std.specs.Prelude.{◌≡◌, ◌≤◌, Result, Ok, Err}
use Rattle.words.specs.Words.{ℕ, List, length, [], Some, None, drop, take}
use Rattle.memory.specs.Part.{splice}
use Rattle.memory.specs.Contained.{Contained}
use Rattle.wire.specs.Answers.{Said, value, refusal, said}
use Rattle.coefficients.specs.Coefficients.{keys, draws_of, packet_draws}
use Rattle.sender.specs.declared.Header.{Header}
use Rattle.sender.specs.State.{Sender, memory_size, header_in, Holds}
use Rattle.sender.specs.Repair.{written_key}
use Rattle.sender.specs.Calls.{Outcome, refused, done, opening, adding, repairing}
pub use Rattle.sender.specs.Answers.{answer_of, draws_in}
use Rattle.wire.specs.declared.Refusal.{Refusal}

-- the refusal n: memory and output are as they were
pub record RefusedWith (n : ℕ) (m out : List ℕ) (r : Result ℕ Refusal) (m' out' : List ℕ) : Type 0 where
  pub answer : said r ≡ refusal n
  pub memory : m' ≡ m
  pub output : out' ≡ out

-- the packet was written at the front of the output, the answer is its length, and the memory holds s; the rest of the output, and the memory past
-- the size that s needs, are as they were
pub record DoneWith (packet : List ℕ) (s : Sender) (m out : List ℕ) (r : Result ℕ Refusal) (m' out' : List ℕ) : Type 0 where
  pub answer : said r ≡ value (length packet)
  pub output : out' ≡ splice 0 packet out
  pub holds : Holds m' s
  pub length : length m' ≡ length m
  pub past : drop (memory_size s.setting) m' ≡ drop (memory_size s.setting) m

-- the call did what it comes to
abbrev pub Follows : Outcome → (m out : List ℕ) (r : Result ℕ Refusal) (m' out' : List ℕ) → Type 0
Follows (refused n) m out r m' out' = RefusedWith n m out r m' out'
Follows (done packet s) m out r m' out' = DoneWith packet s m out r m' out'

-- what an answer leaves as it was: output past the bytes written; all of memory and output where it is a refusal, which is not 3
abbrev pub Leaves : Said → (m out m' out' : List ℕ) → Type 0
Leaves (value n) m out m' out' = drop n out' ≡ drop n out
Leaves (refusal n) m out m' out' = (n ≡ 3 → ⊥) × (m' ≡ m) × (out' ≡ out)

-- memory and output keep their lengths, memory past the size that the header's setting needs is as it was, and so is what the answer leaves; output has
-- room for the bytes written
pub record Kept (h : Header) (m out : List ℕ) (r : Result ℕ Refusal) (m' out' : List ℕ) : Type 0 where
  pub memory : Contained (memory_size h.setting) m m'
  pub output : length out' ≡ length out
  pub leaves : Leaves (said r) m out m' out'
  pub fits : (n : ℕ) → said r ≡ value n → n ≤ length out

-- a call that comes to f of the sender, on any memory: refusal 3 where it has no sender's header; kept where it has one; and f where it holds a sender
pub record Promise (f : Sender → Outcome) (m out : List ℕ) (r : Result ℕ Refusal) (m' out' : List ℕ) : Type 0 where
  pub unopened : header_in m ≡ None → RefusedWith 3 m out r m' out'
  pub kept : (h : Header) → header_in m ≡ Some h → Kept h m out r m' out'
  pub follows : (s : Sender) → Holds m s → Follows (f s) m out r m' out'

-- ---- each call

-- opening, which has no output
abbrev pub Opens : (scheme size width : ℕ) (flows m : List ℕ) (r : Result ℕ Refusal) (m' : List ℕ) → Type 0
Opens scheme size width flows m r m' = Follows (opening scheme size width flows (length m)) m [] r m' []

-- adding an ADU
abbrev pub Adds : (flow : ℕ) (adu m out : List ℕ) (r : Result ℕ Refusal) (m' out' : List ℕ) → Type 0
Adds flow adu m out r m' out' = Promise (λ s. adding s flow adu (length out)) m out r m' out'

-- making repair, which leaves the memory
abbrev pub Repairs : (key dt count : ℕ) (m out : List ℕ) (r : Result ℕ Refusal) (out' : List ℕ) → Type 0
Repairs key dt count m out r out' = Promise (λ s. repairing s key dt count (length out)) m out r m out'

-- d are the draws of the lists from the key written on, over the symbols that the window has, and those that the packet of n bytes at the front of the
-- output takes; both numbers are small, whatever the memory
pub record Drew (key dt count : ℕ) (m out' : List ℕ) (n d : ℕ) : Type 0 where
  pub lists : (h : Header) → header_in m ≡ Some h
      → d ≡ draws_of h.setting.scheme dt h.held (keys (written_key h.setting.scheme key dt) count)
  pub packet : (h : Header) → header_in m ≡ Some h → d ≡ packet_draws h.setting.scheme h.setting.size (take n out')
  pub small : (n ≤ 24008) × (d ≤ 69360)

-- a refusal has no draws
abbrev pub Draws : (key dt count : ℕ) (m out' : List ℕ) → Result (ℕ × ℕ) Refusal → Type 0
Draws key dt count m out' (Ok (n, d)) = Drew key dt count m out' n d
Draws key dt count m out' (Err n) = Unit {0}

-- making repair, with the draws beside the bytes written
pub record RepairMade (key dt count : ℕ) (m out : List ℕ) (r : Result (ℕ × ℕ) Refusal) (out' : List ℕ) : Type 0 where
  pub repairs : Repairs key dt count m out (answer_of r) out'
  pub draws : Draws key dt count m out' r
