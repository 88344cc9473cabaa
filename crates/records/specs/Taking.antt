-- How much of a piece of the input is taken, and the lines that end in it, as definitions that compute. Lines are taken as long as there is input, room for
-- a record's line and more is wanted: both are asked before the first and after the end of each.
use Rattle.std.specs.Prelude.{◌≡◌, ◌≤◌, ◌+◌, ◌<◌, ◌∷◌, ◌++◌, ◌&&◌}
use Rattle.words.specs.Words.{ℕ, List, length, [], true, false, Bool, take, cond, leb, eqb, not}
use Rattle.records.specs.Records.{most_lines}
use Rattle.records.specs.Standing.{Standing, opening, closed, working, after_line, printed_line, after, printed_by}

-- no more of the input is wanted: the first line was bad, or the most packet lines have been read
abbrev pub is_final : Standing → Bool
is_final opening = false
is_final closed = true
is_final (working s t rs) = leb most_lines (length rs)

-- a line is taken after n bytes were written: one record's line more fits into 65,536, and more is wanted
abbrev pub takes_line : Standing → (n : ℕ) → Bool
takes_line w n = leb n 65458 && not (is_final w)

-- the bytes of the input x that are taken where a line is being taken that has begun with the bytes q: at its end it is printed, and then the next is
-- taken, or none
unfoldable pub taken_of : Standing → (q : List ℕ) → (n : ℕ) → (x : List ℕ) → ℕ
taken_of w q n [] = 0
taken_of w q n (b ∷ x) =
    let w' = after_line w q in
    let n' = n + length (printed_line w q) in
    let ended = cond (takes_line w' n') (taken_of w' [] n' x) 0 in
    let goes_on = taken_of w (q ++ (b ∷ [])) n x in
    1 + cond (eqb b 10) ended goes_on

-- the bytes of x that are taken after n bytes were written: none where no line is taken
abbrev pub taken_from : Standing → (q : List ℕ) → (n : ℕ) → (x : List ℕ) → ℕ
taken_from w q n x = cond (takes_line w n) (taken_of w q n x) 0

-- the lines that end in the bytes x, the first of which has begun with the bytes q, and the bytes after the last of them
unfoldable pub ended_in : (q x : List ℕ) → List (List ℕ)
ended_in q [] = []
ended_in q (b ∷ x) = cond (eqb b 10) (q ∷ ended_in [] x) (ended_in (q ++ (b ∷ [])) x)

unfoldable pub unended_in : (q x : List ℕ) → List ℕ
unended_in q [] = q
unended_in q (b ∷ x) = cond (eqb b 10) (unended_in [] x) (unended_in (q ++ (b ∷ [])) x)

-- a line is taken after the bytes t: what is printed of the lines that end in them leaves room, and more is wanted
abbrev pub takes_after : Standing → (q : List ℕ) → (n : ℕ) → (t : List ℕ) → Bool
takes_after w q n t = takes_line (after w (ended_in q t)) (n + length (printed_by w (ended_in q t)))

-- What is taken, told without going through the input: after any fewer bytes a line is taken, and after these, unless they are all, none is.
pub record Exactly (w : Standing) (q : List ℕ) (n : ℕ) (x : List ℕ) (k : ℕ) : Type 0 where
  pub within : k ≤ length x
  pub before : (i : ℕ) → i < k → takes_after w q n (take i x) ≡ true
  pub stops : k < length x → takes_after w q n (take k x) ≡ false

-- what is taken is that, and no other number of bytes is
pub record TakenExactly : Type 0 where
  pub exact : (x : List ℕ) (w : Standing) (q : List ℕ) (n : ℕ) → Exactly w q n x (taken_from w q n x)
  pub only : (x : List ℕ) (w : Standing) (q : List ℕ) (n k : ℕ) → Exactly w q n x k → k ≡ taken_from w q n x
