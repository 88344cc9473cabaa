-- Laws of the rows of zero bytes: how the draws of a coefficient count them, that a shorter row than sixteen is not refused, and the largest value.
use Rattle.std.specs.Prelude.{◌≡◌, ◌≤◌, ◌+◌, ◌<◌, is_some}
use Rattle.words.specs.Words.{arith, ℕ, List, refl, suc, true, zero, false, Bool, cond, leb, eqb, add-one, not-suc-le-zero, max}
use Rattle.std.specs.Option.{unwrap_or}
use native.Mathlib.Decide.{le_ind}
use Rattle.tinymt.specs.Generator.{start_of, draw_of, low4, low8}
use Rattle.coefficients.specs.declared.Coefficient.{Coefficient}
use Rattle.coefficients.specs.Coefficients.{found, last_zero, nonzero_from, byte_of}
use Rattle.survey.specs.Survey.{zeros_from, zeros_of, words_after, largest}

-- ---- one coefficient

-- the draw of the byte v that was looked for, if it is not zero
abbrev pub last : ℕ → ℕ
last v = cond (eqb v 0) 0 1

-- a coefficient c with z zeros, after k draws that are no bytes: its draws are those, the zeros and the last one; fewer than n zeros are not refused
pub record Row (n k z : ℕ) (c : Coefficient) : Type 0 where
  pub draws : c.draws ≡ k + (z + last (unwrap_or c.value 0))
  pub found : z < n → is_some c.value ≡ true

row_from : (n k : ℕ) (s : List ℕ) → Row n k (zeros_from n s) (nonzero_from n k s)
unfolding nonzero_from zeros_from
row_from zero k s = record { draws = omega arith; found = λ h. absurd (not-suc-le-zero h) }
row_from (suc n) k s = go (eqb (low8 (draw_of s).value) 0) refl (row_from n (k + 1) (draw_of s).state)
  where
    go : (b : Bool) → eqb (low8 (draw_of s).value) 0 ≡ b → Row n (k + 1) (zeros_from n (draw_of s).state) (nonzero_from n (k + 1) (draw_of s).state)
        → Row (suc n) k (zeros_from (suc n) s) (nonzero_from (suc n) k s)
    go true f rest = rw f (record { draws = omega (arith, rest.draws); found = λ h. rest.found (omega arith) })
    go false f rest = rw f (record { draws = rw f (omega arith); found = λ h. refl })

-- the draw of rand16, if there is one
abbrev pub first : ℕ → ℕ
first dt = cond (eqb dt 15) 0 1

pub row_of : (dt : ℕ) (s : List ℕ) → Row last_zero (first dt) (zeros_of dt s) (byte_of dt s)
unfolding byte_of zeros_of
row_of dt s = go (eqb dt 15) (leb (low4 (draw_of s).value) dt)
  where
    go : (b d : Bool) → Row last_zero (cond b 0 1) (cond b (zeros_from last_zero s) (cond d (zeros_from last_zero (draw_of s).state) 0))
        (cond b (nonzero_from last_zero 0 s) (cond d (nonzero_from last_zero 1 (draw_of s).state) (found 0 1 (draw_of s).state)))
    go true d = row_from last_zero 0 s
    go false true = row_from last_zero 1 (draw_of s).state
    go false false = record { draws = refl; found = λ h. refl }

-- ---- the largest value

module _ (f : ℕ → ℕ) where
  pub largest-none : largest f 0 ≡ 0
  unfolding largest
  largest-none = refl

  pub largest-more : (n : ℕ) → largest f (n + 1) ≡ max (largest f n) (f n)
  unfolding largest
  largest-more n = rw add-one

  pub below_largest : (n i : ℕ) → i < n → f i ≤ largest f n
  unfolding largest
  below_largest n i h = le_ind (λ (m : ℕ). f i ≤ largest f m) (omega arith) (λ m k e. omega arith) n h

-- ---- the words after the coefficients of a key

module _ (dt key : ℕ) where
  pub words_none : words_after dt key 0 ≡ start_of key
  unfolding words_after
  words_none = refl

  pub words_more : (n : ℕ) → words_after dt key (n + 1) ≡ (byte_of dt (words_after dt key n)).state
  unfolding words_after
  words_more n = rw add-one
