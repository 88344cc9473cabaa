-- What is proved of how lines are read (proofs/Promises): exactly the lines of the forms are read, and as what they say.
use Rattle.std.specs.Prelude.{◌≡◌, ◌≤◌, ◌<◌, ◌∷◌, ◌++◌, ◌↔◌}
use Rattle.words.specs.Words.{ℕ, List, length, [], Some, get_or}
use Rattle.history.specs.History.{Call}
use Rattle.lines.specs.Lines.{unended, lines_of}
use Rattle.lines.specs.Forms.{Values, first_line, Says}
use Rattle.lines.specs.Reading.{values_in, call_in}

-- no byte of a line is 0A
abbrev pub Unbroken : List ℕ → Type 0
Unbroken l = (k : ℕ) → k < length l → get_or l k 0 ≡ 10 → ⊥

abbrev pub AllUnbroken : List (List ℕ) → Type 0
AllUnbroken [] = Unit {0}
AllUnbroken (l ∷ ls) = Unbroken l × AllUnbroken ls

-- lines, each with 0A after it
abbrev pub joined : List (List ℕ) → List ℕ
joined [] = []
joined (l ∷ ls) = l ++ (10 ∷ joined ls)

-- values that are small enough to be read
abbrev pub Small : Values → Type 0
Small v = (v.scheme ≤ 1500) × (v.size ≤ 1500) × (v.width ≤ 1500)

pub record ReadExactly : Type 0 where
  -- lines that end at 0A, and the bytes after the last of them
  pub lines : (ls : List (List ℕ)) (p : List ℕ) → AllUnbroken ls → Unbroken p → lines_of (joined ls ++ p) ≡ ls ++ unended p
  pub values : (l : List ℕ) (v : Values) → (values_in l ≡ Some v) ↔ ((l ≡ first_line v) × Small v)
  pub calls : (l : List ℕ) (c : Call) → (call_in l ≡ Some c) ↔ Says l c
