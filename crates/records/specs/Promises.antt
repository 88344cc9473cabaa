-- What the calls that work through a capture promise. p is the progress, line the bytes kept of a line that has not ended, m the receiver's memory;
-- p', line', m' these afterwards.
use Rattle.std.specs.Prelude.{◌≡◌, ◌≤◌, ◌<◌, ◌++◌}
use Rattle.words.specs.Words.{ℕ, List, length, [], true, false, Bool, take, leb}
use Rattle.lines.specs.Lines.{lines_from}
use Rattle.records.specs.declared.Stage.{Stage}
use Rattle.records.specs.declared.Stage.TheVariants.{Opening, Working, Closed}
use Rattle.records.specs.declared.Progress.{Progress}
use Rattle.records.specs.declared.Pass.{Pass}
use Rattle.records.specs.Records.{most_lines}
use Rattle.records.specs.Standing.{Standing, opening, after, printed_by, last_of, Stands, Kept}
use Rattle.records.specs.Taking.{taken_from, ended_in, unended_in}

-- nothing more of the input is wanted: the first line was bad, or the most packet lines have been read
abbrev pub is_done : Stage → (lines : ℕ) → Bool
is_done Opening n = false
is_done Working n = leb most_lines n
is_done Closed n = true

abbrev pub is_over : Progress → Bool
is_over p = is_done p.stage p.lines

-- the capture stands at w, and its line that has not ended has the bytes q
pub record Held (p : Progress) (line m : List ℕ) (w : Standing) (q : List ℕ) : Type 0 where
  pub stands : Stands p m w
  pub kept : Kept p.have line q

-- the beginning of a capture
abbrev pub Begun : Progress → Type 0
Begun p = (line m : List ℕ) → Held p line m opening []

-- a capture goes on from w and q: these lines have ended in the bytes taken, and the bytes of another are left; it stands after those lines, and what
-- was written before is followed by what is printed of them
pub record GoesFrom (w : Standing) (q before taken written : List ℕ) (p' : Progress) (line' m' : List ℕ) : Type 0 where
  pub lines : List (List ℕ)
  pub unended : List ℕ
  pub cut : (z : List ℕ) → lines_from q (taken ++ z) ≡ lines ++ lines_from unended z
  pub held : Held p' line' m' (after w lines) unended
  pub wrote : written ≡ before ++ printed_by w lines

-- what is made of a piece of the input from w and q on, outright: how many bytes of it are taken, what is written of the lines that end in these, and
-- where the capture stands after them
pub record Outright (w : Standing) (q input line' m' out' : List ℕ) (r : Pass) : Type 0 where
  pub takes : r.taken ≡ taken_from w q 0 input
  pub writes : take r.written out' ≡ printed_by w (ended_in q (take r.taken input))
  pub stands : Held r.progress line' m' (after w (ended_in q (take r.taken input))) (unended_in q (take r.taken input))

-- a piece of the input
pub record Fed (p : Progress) (line line' m m' input out' : List ℕ) (r : Pass) : Type 0 where
  pub taken : r.taken ≤ length input
  pub written : r.written ≤ length out'
  -- as long as more is wanted, some is taken
  pub moves : is_over p ≡ false → 0 < length input → 0 < r.taken
  pub goes : (w : Standing) (q : List ℕ) → Held p line m w q → GoesFrom w q [] (take r.taken input) (take r.written out') r.progress line' m'
  pub outright : (w : Standing) (q : List ℕ) → Held p line m w q → Outright w q input line' m' out' r

-- the input's end: the bytes that are left are a line
pub record Finished (p : Progress) (line m out' : List ℕ) (written : ℕ) : Type 0 where
  pub room : written ≤ length out'
  pub prints : (w : Standing) (q : List ℕ) → Held p line m w q
      → take written out' ≡ printed_by w (lines_from q []) ++ last_of (after w (lines_from q []))
