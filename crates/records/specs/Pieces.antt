-- A capture that is handed over in pieces: any number of calls of `feed`, one after the other, and then `finish`.
use Rattle.std.specs.Prelude.{◌≡◌, ◌≤◌, ◌∷◌, ◌++◌, ◌⊎◌}
use Rattle.words.specs.Words.{ℕ, List, length, [], true, take}
use Rattle.wire.specs.declared.Setting.{Setting}
use Rattle.lines.specs.Promises.{AllUnbroken, Unbroken, joined}
use Rattle.records.specs.declared.Progress.{Progress}
use Rattle.records.specs.declared.Pass.{Pass}
use Rattle.records.specs.Records.{most_lines}
use Rattle.records.specs.Replay.{printed}
use Rattle.records.specs.Claims.{Opens}
use Rattle.records.specs.Promises.{is_over, Begun, Fed, Finished}

-- a call of `feed`: the piece that it was given, its answer, and its output, the kept line and the receiver's memory as it left them
pub record Piece : Type 0 where
  pub input : List ℕ
  pub pass : Pass
  pub output : List ℕ
  pub line : List ℕ
  pub memory : List ℕ

-- what was taken of the pieces, and what was written of them
abbrev pub taken : List Piece → List ℕ
taken [] = []
taken (x ∷ xs) = take x.pass.taken x.input ++ taken xs

abbrev pub written : List Piece → List ℕ
written [] = []
written (x ∷ xs) = take x.pass.written x.output ++ written xs

-- the calls one after the other, the first with these, each with what the last left
abbrev pub InTurn : Progress → (line m : List ℕ) → List Piece → Type 0
InTurn p line m [] = Unit {0}
InTurn p line m (x ∷ xs) =
    Fed p line x.line m x.memory x.input x.output x.pass × InTurn x.pass.progress x.line x.memory xs

-- what they leave
abbrev pub reached : Progress → List Piece → Progress
reached p [] = p
reached p (x ∷ xs) = reached x.pass.progress xs

abbrev pub line_left : (line : List ℕ) → List Piece → List ℕ
line_left line [] = line
line_left line (x ∷ xs) = line_left x.line xs

abbrev pub memory_left : (m : List ℕ) → List Piece → List ℕ
memory_left m [] = m
memory_left m (x ∷ xs) = memory_left x.memory xs

-- However an input is cut into pieces, what is written of it, with what the end wrote to `last`, is what is printed of it: of the bytes taken, and of these
-- with any others after them where no more is wanted.
abbrev pub WorkedThrough : Type 0
WorkedThrough =
    (p : Progress) (line m : List ℕ) (xs : List Piece) → Begun p → InTurn p line m xs
    → (last : List ℕ) (n : ℕ) → Finished (reached p xs) (line_left line xs) (memory_left m xs) last n
    → (rest : List ℕ) → (rest ≡ []) ⊎ (is_over (reached p xs) ≡ true)
    → written xs ++ take n last ≡ printed (taken xs ++ rest)

-- No more is wanted once a bad first line, or the most packet lines after the first, have been taken.
abbrev pub Stops : Type 0
Stops =
    (p : Progress) (line m : List ℕ) (xs : List Piece) → Begun p → InTurn p line m xs
    → (l : List ℕ) (ls : List (List ℕ)) (q : List ℕ) → AllUnbroken (l ∷ ls) → Unbroken q → taken xs ≡ joined (l ∷ ls) ++ q
    → ((s : Setting) → ¬ Opens l s) ⊎ (most_lines ≤ length ls)
    → is_over (reached p xs) ≡ true
