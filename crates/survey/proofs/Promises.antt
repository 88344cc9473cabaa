-- What a survey shows: a list whose coefficients all have rows of fewer than sixteen zeros is not refused.
use Rattle.std.specs.Prelude.{◌≡◌, ◌≤◌, ◌<◌}
use Rattle.words.specs.Words.{arith, ℕ, refl, suc, true, zero}
use Rattle.wire.specs.Numbers.{key_after}
use Rattle.wire.specs.declared.Scheme.{Scheme}
use Rattle.wire.specs.declared.Scheme.TheVariants.{Gf2, Gf256}
use Rattle.coefficients.specs.Coefficients.{last_zero, byte_of, coefficients_of, keys, all_ok}
use Rattle.coefficients.proofs.Lists.{extend_ok, bits_ok}
use Rattle.survey.specs.Survey.{zeros_of, words_after, longest_of_key, longest_at, longest_within}
use Rattle.survey.specs.Promises.{Unrefused, Surveyed}
use Rattle.survey.proofs.Laws.{row_of, below_largest}

-- and the words after such a list are those after its coefficients
short_rows : (key dt n : ℕ) → ((i : ℕ) → i < n → zeros_of dt (words_after dt key i) < last_zero)
    → ((coefficients_of Gf256 key dt n).ok ≡ true) × ((coefficients_of Gf256 key dt n).state ≡ words_after dt key n)
unfolding coefficients_of words_after
short_rows key dt zero h = (refl, refl)
short_rows key dt (suc n) h =
    let (o, e) = short_rows key dt n (λ i k. h i (omega arith)) in
    rw (extend_ok Gf256 dt (coefficients_of Gf256 key dt n) o {c = byte_of dt (words_after dt key n)} (rw e))
    ((row_of dt (words_after dt key n)).found (h n (omega arith)), refl)

lists : (count keys thresholds : ℕ) → longest_within count keys thresholds < last_zero → Unrefused count keys thresholds
lists count keys thresholds h Gf2 key dt n k d c = bits_ok key dt n
lists count keys thresholds h Gf256 key dt n k d c =
    (short_rows key dt n (λ i j. omega (
      arith,
      below_largest (λ i. zeros_of dt (words_after dt key i)) count i (omega arith),
      below_largest (longest_of_key dt count) keys key k,
      below_largest (longest_at count keys) thresholds dt d,
    ))).0

packets : Unrefused 255 65536 16 → (scheme : Scheme) (first dt n symbols : ℕ) → first < 65536 → dt < 16 → n ≤ 255
    → all_ok scheme dt n (keys first symbols) ≡ true
packets u scheme first dt n zero k d c = refl
packets u scheme first dt n (suc symbols) k d c =
    rw (u scheme first dt n k d c) (packets u scheme (key_after first) dt n symbols (omega arith) d c)

pub surveyed : Surveyed
surveyed = record {
  lists = lists;
  sizes = lists 255 65536 16;
  packets = λ h. packets (lists 255 65536 16 h);
}
