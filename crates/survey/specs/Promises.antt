-- What a survey shows (proofs/Promises): where the longest row has fewer than sixteen zeros, refusal 10 never occurs.
use Rattle.std.specs.Prelude.{◌≡◌, ◌≤◌, ◌<◌}
use Rattle.words.specs.Words.{ℕ, true}
use Rattle.wire.specs.declared.Scheme.{Scheme}
use Rattle.coefficients.specs.Coefficients.{last_zero, coefficients_of, keys, all_ok}
use Rattle.survey.specs.Survey.{longest_within, longest_zeros}

-- no list of at most `count` coefficients is refused, whatever its scheme, for a key below `limit` at a density threshold below `thresholds`
abbrev pub Unrefused : (count limit thresholds : ℕ) → Type 0
Unrefused count limit thresholds =
    (scheme : Scheme) (key dt n : ℕ) → key < limit → dt < thresholds → n ≤ count → (coefficients_of scheme key dt n).ok ≡ true

pub record Surveyed : Type 0 where
  -- of any survey
  pub lists : (count limit thresholds : ℕ) → longest_within count limit thresholds < last_zero → Unrefused count limit thresholds
  -- of that within our sizes
  pub sizes : longest_zeros < last_zero → Unrefused 255 65536 16
  -- so no repair packet has a list that is refused, whatever its first key and the number of its repair symbols
  pub packets : longest_zeros < last_zero → (scheme : Scheme) (first dt n symbols : ℕ) → first < 65536 → dt < 16 → n ≤ 255
      → all_ok scheme dt n (keys first symbols) ≡ true
