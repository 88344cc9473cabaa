-- What is claimed of the two calls, over all E, D and L (document 02, No. 8). `src` is the input, `out` the output
-- before the call and `out'` after it, and `a` the answer.
use Rattle.std.specs.Prelude.{◌≡◌, ◌≤◌, ◌+◌, ◌<◌, ◌*◌, ◌↔◌, ◌⊎◌, Result}
use Rattle.words.specs.Words.{ℕ, List, length, take}
use Rattle.memory.specs.Part.{part}
use Rattle.memory.specs.Contained.{Contained}
use Rattle.wire.specs.Answers.{Said, value, refusal, said}
use Rattle.interleave.specs.Places.{taken_at, sent_at}
use Rattle.interleave.specs.Promises.{Interleaves, Deinterleaves}
use Rattle.wire.specs.declared.Refusal.{Refusal}

-- Taken row by row: a symbol comes before another where its row does, or in the same row its column.
abbrev pub ByRows : Type 0
ByRows = (L r c r' c' : ℕ) → c < L → c' < L
    → (taken_at L r c < taken_at L r' c') ↔ ((r < r') ⊎ ((r ≡ r') × (c < c')))

-- Sent column by column: where its column does, or in the same column its row.
abbrev pub ByColumns : Type 0
ByColumns = (D r c r' c' : ℕ) → r < D → r' < D
    → (sent_at D r c < sent_at D r' c') ↔ ((c < c') ⊎ ((c ≡ c') × (r < r')))

-- E has its values
abbrev pub SizeAllowed : ℕ → Type 0
SizeAllowed E = (4 ≤ E) × (E ≤ 1500)

-- D and L have theirs, and so many bytes are those of D rows by L columns of symbols of E bytes
abbrev pub IsGrid : (E D L bytes : ℕ) → Type 0
IsGrid E D L bytes = (1 ≤ D) × (D ≤ 255) × (1 ≤ L) × (L ≤ 255) × (bytes ≡ D * L * E)

-- the call answers the refusal n, and the output is as it was
pub record Refuses (n : ℕ) (out : List ℕ) (a : Said) (out' : List ℕ) : Type 0 where
  pub answer : a ≡ refusal n
  pub output : out' ≡ out

-- The call answers the bytes of the grid, and past so many the output is as it was. The symbol in row r and column c
-- is at place `from r c` of the input and at place `to r c` of the output.
pub record Moves (E D L : ℕ) (from to : (r c : ℕ) → ℕ) (src out : List ℕ) (a : Said) (out' : List ℕ) : Type 0 where
  pub answer : a ≡ value (D * L * E)
  pub past : Contained (D * L * E) out out'
  pub symbols : (r c : ℕ) → r < D → c < L → part (to r c * E) E out' ≡ part (from r c * E) E src

-- what a call has to answer and to write, with the refusals in the order of their tests
pub record Judged (E D L : ℕ) (from to : (r c : ℕ) → ℕ) (src out : List ℕ) (a : Said) (out' : List ℕ) : Type 0 where
  pub size : ¬ SizeAllowed E → Refuses 1 out a out'
  pub grid : SizeAllowed E → ¬ IsGrid E D L (length src) → Refuses 17 out a out'
  pub short : SizeAllowed E → IsGrid E D L (length src) → length out < length src → Refuses 2 out a out'
  pub moves : SizeAllowed E → IsGrid E D L (length src) → length src ≤ length out
      → Moves E D L from to src out a out'

-- Taken row by row, sent column by column; and back. Exactly this is promised, so it leaves no choice.
abbrev pub Sent : Type 0
Sent = (E D L : ℕ) (src out : List ℕ) (a : Result ℕ Refusal) (out' : List ℕ)
    → Interleaves E D L src out a out' ↔ Judged E D L (taken_at L) (sent_at D) src out (said a) out'

abbrev pub PutBack : Type 0
PutBack = (E D L : ℕ) (src out : List ℕ) (a : Result ℕ Refusal) (out' : List ℕ)
    → Deinterleaves E D L src out a out' ↔ Judged E D L (sent_at D) (taken_at L) src out (said a) out'

-- One call undoes the other: where the first has answered n, the second, on the n bytes that it wrote and with room
-- for as many, answers n and writes the first one's input.
abbrev pub Undoes : (First Second : (src out : List ℕ) → Result ℕ Refusal → (out' : List ℕ) → Type 0) → Type 0
Undoes First Second =
    (n : ℕ) (src out out' back back' : List ℕ) (a b : Result ℕ Refusal) → First src out a out' → said a ≡ value n
    → Second (take n out') back b back' → n ≤ length back → (said b ≡ value n) × (take n back' ≡ src)

-- Each undoes the other.
abbrev pub Undone : Type 0
Undone = (E D L : ℕ)
    → Undoes (Interleaves E D L) (Deinterleaves E D L) × Undoes (Deinterleaves E D L) (Interleaves E D L)

-- p is one of the n consecutive places from `start` on
abbrev pub Among : (start n p : ℕ) → Type 0
Among start n p = (start ≤ p) × (p < start + n)

-- Any D or fewer consecutive places in send order hold at most one symbol of each row: two of row r, in columns c and
-- c', are one.
abbrev pub Spread : Type 0
Spread = (D start n r c c' : ℕ) → n ≤ D → Among start n (sent_at D r c) → Among start n (sent_at D r c') → c ≡ c'
