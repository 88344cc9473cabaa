-- The lines of an input (document 02, No. 4): each ends at the byte 0A, or at the input's end if bytes follow the last 0A.
use Rattle.std.specs.Prelude.{◌∷◌, ◌++◌}
use Rattle.words.specs.Words.{ℕ, List, [], cond, eqb}

-- the line that the bytes p begin, at the input's end: none where there are no bytes
abbrev pub unended : List ℕ → List (List ℕ)
unended [] = []
unended (b ∷ p) = (b ∷ p) ∷ []

-- the lines of an input, where the first has begun with the bytes p
unfoldable pub lines_from : (p input : List ℕ) → List (List ℕ)
lines_from p [] = unended p
lines_from p (b ∷ x) =
    let ended = p ∷ lines_from [] x in
    let goes_on = lines_from (p ++ (b ∷ [])) x in
    cond (eqb b 10) ended goes_on

abbrev pub lines_of : List ℕ → List (List ℕ)
lines_of x = lines_from [] x
