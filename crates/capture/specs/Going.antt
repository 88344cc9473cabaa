-- What the program's function that is given a piece of the input does with it: it hands it to the library in order, and all of it as long as more is wanted,
-- unless it says that it failed. Whether it may say so no contract can tell, since none speaks of what was written; nor does any say what was read.
use Rattle.std.specs.Prelude.{◌≡◌, ◌++◌, ◌⊎◌, Result, Ok, Err}
use Rattle.words.specs.Words.{ℕ, List, [], true, not}
use Rattle.records.specs.declared.Progress.{Progress}
use Rattle.records.specs.Promises.{is_over}
use Rattle.records.specs.Pieces.{Piece, taken, InTurn, reached, line_left, memory_left}
use Rattle.capture.specs.declared.Heard.{Heard}

-- calls of `feed` have brought a capture from p, line and m to p', line' and m' by the front of the input; what is left of it was not handed over
pub record Handed (p : Progress) (line m input : List ℕ) (p' : Progress) (line' m' left : List ℕ) : Type 0 where
  pub pieces : List Piece
  pub turns : InTurn p line m pieces
  pub progress : reached p pieces ≡ p'
  pub line-is : line_left line pieces ≡ line'
  pub memory_is : memory_left m pieces ≡ m'
  pub input_is : input ≡ taken pieces ++ left

-- a piece of the input was worked through: nothing of it is left, or no more is wanted, and which it is, the function says
pub record Through (p : Progress) (line line' m m' input : List ℕ) (h : Heard) : Type 0 where
  pub more : h.more ≡ not (is_over h.progress)
  pub left : List ℕ
  pub handed : Handed p line m input h.progress line' m' left
  pub all : (left ≡ []) ⊎ (is_over h.progress ≡ true)

-- it was, where the function does not say that it failed
abbrev pub Went : (p : Progress) (line line' m m' input : List ℕ) {E : Type 0} → Result Heard E → Type 0
Went p line line' m m' input (Ok h) = Through p line line' m m' input h
Went p line line' m m' input (Err e) = Unit {0}
