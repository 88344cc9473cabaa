-- What both ends answer to an opening, and to a call for a size of memory (document 01, "Words and sizes" and "Why a call says no").
use Rattle.std.specs.Prelude.{◌≡◌, ◌≤◌, ◌+◌, ◌<◌, ◌*◌, ◌⊎◌, Result}
use Rattle.words.specs.Words.{ℕ, List, length}
use Rattle.memory.specs.Contained.{Contained}
use Rattle.wire.specs.Answers.{Said, value, refusal, said}
use Rattle.wire.specs.declared.Refusal.{Refusal}

-- E and width have their values; and so have scheme, E and width
abbrev pub HaveValues : (E width : ℕ) → Type 0
HaveValues E width = (4 ≤ E) × (E ≤ 1500) × (1 ≤ width) × (width ≤ 255)

abbrev pub Allowed : (scheme E width : ℕ) → Type 0
Allowed scheme E width = ((scheme ≡ 9) ⊎ (scheme ≡ 10)) × HaveValues E width

-- the bytes that a sender needs, those that a receiver needs, and those of the working memory that each of its packet calls borrows (document 01; document
-- 02, No. 6: `width` more, and `width` + 1 more; No. 7: 32 more each)
abbrev pub sender_memory : (E width : ℕ) → ℕ
sender_memory E width = 64 + width * E

abbrev pub receiver_memory : (E width : ℕ) → ℕ
receiver_memory E width = 96 + width * (width + E + 4) + width

abbrev pub working_memory : (E width : ℕ) → ℕ
working_memory E width = 96 + (width + 1) * (width + E + 4) + (width + 1)

-- the answer of a call that is asked for a size of memory: so many bytes, or refusal 1 where E or width is outside its values
pub record SizeAnswered (bytes E width : ℕ) (a : Result ℕ Refusal) : Type 0 where
  pub given : HaveValues E width → said a ≡ value bytes
  pub refused : ¬ HaveValues E width → said a ≡ refusal 1

-- opening an end that needs so many bytes, on the memory m, which is m' after it: 1, 2, else 0; a refusal leaves it, byte for byte
pub record OpeningJudged (needed scheme E width : ℕ) (m : List ℕ) (a : Said) (m' : List ℕ) : Type 0 where
  pub values : ¬ Allowed scheme E width → (a ≡ refusal 1) × (m' ≡ m)
  pub short : Allowed scheme E width → length m < needed → (a ≡ refusal 2) × (m' ≡ m)
  pub opens : Allowed scheme E width → needed ≤ length m → (a ≡ value 0) × Contained needed m m'
