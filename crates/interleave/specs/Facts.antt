-- Computed from the definitions: a grid of 2 rows by 3 columns of 4 bytes, and back; one row, one column; the answers at their limits, and their order;
-- output past the grid.
use Rattle.std.specs.Prelude.{◌≡◌, ◌∷◌, ◌++◌}
use Rattle.words.specs.Words.{ℕ, List, refl, []}
use Rattle.memory.specs.Part.{part, splice}
use Rattle.wire.specs.Answers.{value, refusal}
use Rattle.interleave.specs.Grid.{symbols_from, interleaved, deinterleaved, answer_to, output_after}

-- the rows 1x 2x 3x and 4x 5x 6x
abbrev taken : List ℕ
taken =
    11 ∷ 12 ∷ 13 ∷ 14 ∷ 21 ∷ 22 ∷ 23 ∷ 24 ∷ 31 ∷ 32 ∷ 33 ∷ 34
    ∷ 41 ∷ 42 ∷ 43 ∷ 44 ∷ 51 ∷ 52 ∷ 53 ∷ 54 ∷ 61 ∷ 62 ∷ 63 ∷ 64 ∷ []

-- the columns 1x 4x, 2x 5x and 3x 6x
abbrev sent : List ℕ
sent =
    11 ∷ 12 ∷ 13 ∷ 14 ∷ 41 ∷ 42 ∷ 43 ∷ 44 ∷ 21 ∷ 22 ∷ 23 ∷ 24
    ∷ 51 ∷ 52 ∷ 53 ∷ 54 ∷ 31 ∷ 32 ∷ 33 ∷ 34 ∷ 61 ∷ 62 ∷ 63 ∷ 64 ∷ []

pub grid : interleaved 4 2 3 taken ∷ deinterleaved 4 2 3 sent ∷ [] ≡ sent ∷ taken ∷ []
unfolding symbols_from part
grid = refl

-- one row and one column are sent as they are taken
pub lines :
    interleaved 4 1 6 taken ∷ interleaved 4 6 1 taken ∷ deinterleaved 4 1 6 taken ∷ deinterleaved 4 6 1 taken ∷ []
    ≡ taken ∷ taken ∷ taken ∷ taken ∷ []
unfolding symbols_from part
lines = refl

-- output of just the bytes, one more, one less; a byte of input too few or too many; then E, D and L past their limits, and at them
pub limits :
    answer_to 4 2 3 24 24 ∷ answer_to 4 2 3 24 25 ∷ answer_to 4 2 3 24 23 ∷ answer_to 4 2 3 23 24 ∷ answer_to 4 2 3 25 25
    ∷ answer_to 3 2 3 18 18 ∷ answer_to 1501 2 3 9006 9006 ∷ answer_to 4 0 3 0 0 ∷ answer_to 4 3 0 0 0
    ∷ answer_to 4 256 1 1024 1024 ∷ answer_to 4 1 256 1024 1024 ∷ answer_to 4 1 1 4 4 ∷ answer_to 1500 255 255 97537500 97537500 ∷ []
    ≡ value 24 ∷ value 24 ∷ refusal 2 ∷ refusal 17 ∷ refusal 17
    ∷ refusal 1 ∷ refusal 1 ∷ refusal 17 ∷ refusal 17
    ∷ refusal 17 ∷ refusal 17 ∷ value 4 ∷ value 97537500 ∷ []
limits = refl

-- 1 before 17 before 2, where each pair applies
pub order : answer_to 3 0 3 18 0 ∷ answer_to 3 2 3 18 0 ∷ answer_to 4 2 3 25 0 ∷ answer_to 4 0 3 24 0 ∷ [] ≡ refusal 1 ∷ refusal 1 ∷ refusal 17 ∷ refusal 17 ∷ []
order = refl

-- two symbols into ten bytes of output, of which the last two are as they were; and into seven, all of which are
abbrev two : List ℕ
two = 11 ∷ 12 ∷ 13 ∷ 14 ∷ 21 ∷ 22 ∷ 23 ∷ 24 ∷ []

abbrev seven : List ℕ
seven = 91 ∷ 92 ∷ 93 ∷ 94 ∷ 95 ∷ 96 ∷ 97 ∷ []

pub past :
    output_after (answer_to 4 2 1 8 10) (interleaved 4 2 1 two) (seven ++ 98 ∷ 99 ∷ 100 ∷ []) ∷ output_after (answer_to 4 2 1 8 7) (interleaved 4 2 1 two) seven ∷ []
    ≡ (two ++ 99 ∷ 100 ∷ []) ∷ seven ∷ []
unfolding symbols_from part splice
past = refl
