-- What is promised of the texts of numbers and bytes (specs/Promises).
use Rattle.std.specs.Prelude.{◌≡◌, ◌≤◌, ◌+◌, ◌<◌, ◌-◌, ◌%◌, ◌∷◌, ◌*◌, ◌++◌, ◌≢◌, ◌/◌}
use Rattle.words.specs.Words.{arith, ℕ, List, length, refl, [], suc, zero, get_or, ⊎_elim}
use Rattle.words.specs.Words.{get_or-append}
use native.Mathlib.Nat.{eq-zero-or-pos}
use Rattle.text.specs.Text.{decimal, hexadecimal}
use Rattle.text.specs.Promises.{writes, Texts}
use Rattle.text.proofs.Decimals.{decimal_small, decimal-more, decimal_positive}

-- what holds of the numbers of one digit, and of a number where it holds of it without its last digit, holds of every number
module _ (P : ℕ → Type 0) (one : (n : ℕ) → n < 10 → P n) (more : (n : ℕ) → 10 ≤ n → P (n / 10) → P n) where
  within : (k n : ℕ) → n ≤ k → P n
  within zero n h = one n (omega arith)
  within (suc k) n h =
      ⊎_elim
      (λ m. one n (omega arith))
      (λ m. more n (omega arith) (within k (n / 10) (omega arith)))
      (eq-zero-or-pos (n / 10))

  by_digits : (n : ℕ) → P n
  by_digits n = within n n (omega arith)

-- a digit after others
writes_more : (v : ℕ) (l : List ℕ) (b : ℕ) → writes v (l ++ (b ∷ [])) ≡ writes v l * 10 + (b - 48)
unfolding writes
writes_more v [] b = refl
writes_more v (a ∷ l) b = writes_more (v * 10 + (a - 48)) l b

value : (n : ℕ) → writes 0 (decimal n) ≡ n
unfolding writes
value =
    by_digits
    (λ n. writes 0 (decimal n) ≡ n)
    (λ n h. rw (decimal_small n h) (omega arith))
    (λ n h e. rw (decimal-more n h, writes_more, e) (omega arith))

-- every byte is a digit
abbrev Digits : List ℕ → Type 0
Digits l = (i : ℕ) → i < length l → (48 ≤ get_or l i 0) × (get_or l i 0 ≤ 57)

digits_more : (l : List ℕ) (d : ℕ) → d < 10 → Digits l → Digits (l ++ ((48 + d) ∷ []))
digits_more [] d h f zero m = (omega arith, omega arith)
digits_more [] d h f (suc i) m = absurd (omega arith)
digits_more (a ∷ l) d h f zero m = f zero (omega arith)
digits_more (a ∷ l) d h f (suc i) m = digits_more l d h (λ j n. f (suc j) (omega arith)) i (omega arith)

digits : (n : ℕ) → Digits (decimal n)
digits =
    by_digits
    (λ n. Digits (decimal n))
    (λ n h. rw (decimal_small n h) (digits_more [] n h (λ i m. absurd (omega arith))))
    (λ n h f. rw (decimal-more n h) (digits_more (decimal (n / 10)) (n % 10) (omega arith) f))

-- the first digit of a number that is not 0 is not 0
first : (n : ℕ) → 0 < n → get_or (decimal n) 0 0 ≢ 48
first =
    by_digits
    (λ n. 0 < n → get_or (decimal n) 0 0 ≢ 48)
    (λ n h p. rw (decimal_small n h) (λ e. omega arith))
    (λ n h l p. rw (decimal-more n h, get_or-append (decimal (n / 10)) _ 0 0 (decimal_positive (n / 10))) (l (omega arith)))

shortest : (n : ℕ) → 1 < length (decimal n) → get_or (decimal n) 0 0 ≢ 48
shortest zero h = let e : length (decimal 0) ≡ 1 = rw (decimal_small 0 (omega arith)) in absurd (omega arith)
shortest (suc n) h = first (suc n) (omega arith)

pairs : (l : List ℕ) → length (hexadecimal l) ≡ 2 * length l
unfolding hexadecimal
pairs [] = refl
pairs (b ∷ l) = omega (arith, pairs l)

pub texts : Texts
texts = record { value = value; some = decimal_positive; digits = digits; shortest = shortest; pairs = pairs }
