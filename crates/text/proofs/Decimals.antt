-- Laws of decimal numbers: their digits, and how many there are.
use Rattle.std.specs.Prelude.{◌≡◌, ◌≤◌, ◌+◌, ◌<◌, ◌%◌, ◌∷◌, ◌*◌, ◌++◌, ◌^◌, ◌/◌}
use Rattle.words.specs.Words.{arith, ℕ, length, refl, ap, [], suc, zero, length-append, lt-ltb, le-ltb}
use Rattle.words.specs.Words.{⊎_elim}
use native.Mathlib.Nat.{pow-suc, lt_of_lt_of_le, eq-zero-or-pos}
use lib.Dec.{lit≤}
use Rattle.text.specs.Text.{digit, decimal_within, decimal}

-- the last digit
digit_last : (n : ℕ) → digit (n % 10) ≡ 48 + n % 10
unfolding digit
digit_last n = rw (lt-ltb (n % 10) 10 (omega arith))

-- how many digits are allowed does not matter, where there are enough
within_same : (k j n : ℕ) → n ≤ k → n ≤ j → decimal_within k n ≡ decimal_within j n
unfolding decimal_within
within_same zero zero n h l = refl
within_same zero (suc j) n h l = rw (lt-ltb n 10 (omega arith))
within_same (suc k) zero n h l = rw (lt-ltb n 10 (omega arith))
within_same (suc k) (suc j) n h l = rw (within_same k j (n / 10) (omega arith) (omega arith))

-- with digits enough it is the number in decimal
pub decimal-within : (k n : ℕ) → n ≤ k → decimal_within k n ≡ decimal n
unfolding decimal
decimal-within k n h = within_same k n n h (omega arith)

-- a number of one digit
pub decimal_small : (n : ℕ) → n < 10 → decimal n ≡ (48 + n) ∷ []
unfolding decimal decimal_within
decimal_small zero h = ap (λ (d : ℕ). d ∷ []) (digit_last zero)
decimal_small (suc n) h = let e : suc n % 10 ≡ suc n = omega arith in rw (lt-ltb (suc n) 10 h, digit_last, e)

-- a number of more digits
pub decimal-more : (n : ℕ) → 10 ≤ n → decimal n ≡ decimal (n / 10) ++ ((48 + n % 10) ∷ [])
unfolding decimal decimal_within
decimal-more zero h = absurd (omega arith)
decimal-more (suc n) h = rw (le-ltb (suc n) 10 h, digit_last, decimal-within n (suc n / 10) (omega arith))

-- it has one digit more than the number without its last
pub length_more : (n : ℕ) → 10 ≤ n → length (decimal n) ≡ length (decimal (n / 10)) + 1
length_more n h = rw (decimal-more n h, length-append)

-- a digit after a number
pub decimal_step : (v d : ℕ) → 0 < v → d < 10 → decimal (v * 10 + d) ≡ decimal v ++ ((48 + d) ∷ [])
decimal_step v d h k =
    let q : (v * 10 + d) / 10 ≡ v = omega arith in
    let r : (v * 10 + d) % 10 ≡ d = omega arith in
    cc (decimal-more (v * 10 + d) (omega arith))

-- a number has a digit
pub decimal_positive : (n : ℕ) → 0 < length (decimal n)
decimal_positive n =
    ⊎_elim
    (λ h. rw (decimal_small n (omega arith)) (omega arith))
    (λ h. omega (arith, length_more n (omega arith)))
    (eq-zero-or-pos (n / 10))

-- a number below a power of ten has at most that many digits
pub decimal-digits : (k n : ℕ) → n < 10 ^ suc k → length (decimal n) ≤ suc k
decimal-digits zero n h = rw (decimal_small n h) (omega arith)
decimal-digits (suc k) n h =
    let l : n < 10 ^ suc k * 10 = rw pow-suc at h in
    ⊎_elim
    (λ m. rw (decimal_small n (omega arith)) (omega arith))
    (λ m. omega (arith, length_more n (omega arith), decimal-digits k (n / 10) (omega arith)))
    (eq-zero-or-pos (n / 10))

-- a number of 64 bits has at most 20 digits
pub decimal-length : (n : ℕ) → n < 2 ^ 64 → length (decimal n) ≤ 20
decimal-length n h = decimal-digits 19 n (lt_of_lt_of_le h (lit≤ tt))
