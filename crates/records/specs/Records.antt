-- The records of packet lines, their lines and their sums (document 02, No. 4), and the limits.
use Rattle.std.specs.Prelude.{◌+◌, ◌∷◌, ◌++◌}
use Rattle.words.specs.Words.{ℕ, List, length, [], cond, eqb}
use Rattle.printing.specs.Printed.{record_line, last_line}

-- What is printed of a packet line: 0 or the number of the refusal, 15 where the line is not of the form; and how many positions became known.
pub record Record : Type 0 where
  pub answer : ℕ
  pub known : ℕ

-- the most bytes that a receiver's memory and the working memory may have; as much of each is lent
abbrev pub room : ℕ
room = 65536

-- the most packet lines that are read
abbrev pub most_lines : ℕ
most_lines = 1000000

-- a sum over records
unfoldable pub total : (Record → ℕ) → List Record → ℕ
total f [] = 0
total f (r ∷ rs) = f r + total f rs

-- how many records have answer 0, how many have another, and how many positions became known
abbrev pub accepted_in : List Record → ℕ
accepted_in rs = total (λ r. cond (eqb r.answer 0) 1 0) rs

abbrev pub refused_in : List Record → ℕ
refused_in rs = total (λ r. cond (eqb r.answer 0) 0 1) rs

abbrev pub known_in : List Record → ℕ
known_in rs = total (λ r. r.known) rs

-- the lines of records, the first of which has the number n + 1
unfoldable pub record_lines : ℕ → List Record → List ℕ
record_lines n [] = []
record_lines n (r ∷ rs) = record_line (n + 1) r.answer r.known ++ record_lines (n + 1) rs

-- the last line after records
unfoldable pub summary : List Record → List ℕ
summary rs = last_line (length rs) (accepted_in rs) (refused_in rs) (known_in rs)
