-- Computed from the definitions: a row of two zeros and the coefficients before it, a rand16 whose low byte is zero, and the row that refusal 10 ends.
use Rattle.std.specs.Prelude.{◌≡◌, ◌∷◌}
use Rattle.words.specs.Words.{refl, []}
use Rattle.tinymt.specs.Computing.{computing}
use Rattle.coefficients.specs.Coefficients.{nonzero_from, byte_of}
use Rattle.coefficients.specs.Facts.{zero_words}
use Rattle.survey.specs.Survey.{zeros_from, zeros_of, words_after, largest, longest_of_key}

-- the key 2911 draws two zero bytes for its fourth coefficient at DT 15, and for its third at DT 4
pub rows : longest_of_key 15 3 2911 ∷ longest_of_key 15 4 2911 ∷ longest_of_key 4 2 2911 ∷ longest_of_key 4 3 2911 ∷ [] ≡ 0 ∷ 2 ∷ 0 ∷ 2 ∷ []
unfolding computing nonzero_from byte_of zeros_from zeros_of words_after largest
rows = refl

-- the first draw of the key 708 has the low byte 0: at DT 15 it is a zero byte, below that it is a rand16
pub rand16 : longest_of_key 15 1 708 ∷ longest_of_key 14 1 708 ∷ longest_of_key 0 1 708 ∷ [] ≡ 1 ∷ 0 ∷ 0 ∷ []
unfolding computing nonzero_from byte_of zeros_from zeros_of words_after largest
rand16 = refl

-- refusal 10 ends a row at the sixteenth zero
pub sixteen : zeros_of 15 zero_words ∷ zeros_of 4 zero_words ∷ [] ≡ 16 ∷ 16 ∷ []
unfolding computing zeros_from zeros_of
sixteen = refl
