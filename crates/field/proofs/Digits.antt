-- Horner's rule, one digit at a time.
use Rattle.std.specs.Prelude.{◌≡◌, ◌≤◌, ◌%◌, ◌/◌}
use Rattle.words.specs.Words.{ℕ, refl, ◌∙◌, sym, ap, suc, zero, not-suc-le-zero}
use native.Mathlib.Nat.{le_refl}
use native.Mathlib.Decide.{le_ind}
use lib.Arith.{half_le}
use Rattle.field.specs.Digits.{fold_upto, fold_digits}

module _ (f : ℕ → ℕ → ℕ) (none : f 0 0 ≡ 0) where
  more : (n a : ℕ) → a ≤ n → fold_upto f (suc n) a ≡ fold_upto f n a
  more zero zero h = refl
  more zero (suc a) h = absurd (not-suc-le-zero h)
  more (suc n) zero h = refl
  more (suc n) (suc a) h = ap (f (suc a % 2)) (more n (suc a / 2) (half_le h))

  enough : (n a : ℕ) → a ≤ n → fold_upto f n a ≡ fold_digits f a
  enough n a h = le_ind (λ (m : ℕ). fold_upto f m a ≡ fold_digits f a) refl (λ m k e. more m a k ∙ e) n h

  pub fold_step : (a : ℕ) → fold_digits f a ≡ f (a % 2) (fold_digits f (a / 2))
  fold_step zero = sym none
  fold_step (suc a) = ap (f (suc a % 2)) (enough a (suc a / 2) (half_le (le_refl (suc a))))
