-- Horner's rule over the binary digits of a number.
use Rattle.std.specs.Prelude.{◌%◌, ◌/◌}
use Rattle.words.specs.Words.{ℕ, suc, zero}

-- `f d r` takes a digit d and what the digits above it gave, r. At most n digits are taken.
abbrev pub fold_upto : (ℕ → ℕ → ℕ) → ℕ → ℕ → ℕ
fold_upto f zero a = 0
fold_upto f (suc n) zero = 0
fold_upto f (suc n) (suc a) = f (suc a % 2) (fold_upto f n (suc a / 2))

-- A number has no more digits than its value.
abbrev pub fold_digits : (ℕ → ℕ → ℕ) → ℕ → ℕ
fold_digits f a = fold_upto f a a
