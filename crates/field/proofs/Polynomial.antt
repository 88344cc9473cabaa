-- Polynomials over GF(2): the product is a commutative ring's, and the remainder passes through it.
-- The laws by group:
--   the product: times-xor_left, times-xor_right, times-one, times_comm, times_assoc
--   the remainder: remainder-xor, remainder-lt, remainder_id, remainder-times
use Rattle.std.specs.Prelude.{◌≡◌, ◌<◌, ◌%◌, ◌*◌, ◌^◌, ◌/◌}
use Rattle.words.specs.Words.{arith, ℕ, refl, ◌∙◌, sym, ap, ap₂, bit_xor, zero-mul, xor_lt, one-mul}
use native.Mathlib.Nat.{zero-lt-suc, mul-one, mul_assoc, mul-mod_left, mul-div_cancel}
use lib.Arith.{bin_ind}
use lib.Bits.{xor_shr, xor_mod, xor_self}
use Rattle.field.specs.Gf256.{modulus, times, reduce, remainder}
use Rattle.field.proofs.Digits.{fold_step}
use Rattle.field.proofs.Xor.{digit, xor_half, xor_swap, xor_double, digit-xor, xor-digit, split_digit}

twice_half : (a : ℕ) → a * 2 / 2 ≡ a
twice_half a = mul-div_cancel a (zero-lt-suc 1)

-- ---- the product

times_step : (a b : ℕ) → times a b ≡ bit_xor (a % 2 * b) (times (a / 2) b * 2)
unfolding times
times_step a b = fold_step (λ d r. bit_xor (d * b) (r * 2)) (simp zero-mul) a

pub times-xor_left : (a b c : ℕ) → times (bit_xor a b) c ≡ bit_xor (times a c) (times b c)
unfolding times
times-xor_left a b c =
    bin_ind (λ (n : ℕ). (b : ℕ) → times (bit_xor n b) c ≡ bit_xor (times n c) (times b c)) (λ b. refl)
    (λ n ih b. times_step (bit_xor n b) c
    ∙ ap₂ bit_xor (xor-digit n b c)
    (ap (λ (x : ℕ). x * 2) (ap (λ (x : ℕ). times x c) (xor_half n b) ∙ ih (b / 2)) ∙ xor_double (times (n / 2) c) (times (b / 2) c))
    ∙ xor_swap (n % 2 * c) (b % 2 * c) (times (n / 2) c * 2) (times (b / 2) c * 2)
    ∙ sym (ap₂ bit_xor (times_step n c) (times_step b c))) a b

pub times-xor_right : (a b c : ℕ) → times a (bit_xor b c) ≡ bit_xor (times a b) (times a c)
unfolding times
times-xor_right a b c =
    bin_ind (λ (n : ℕ). times n (bit_xor b c) ≡ bit_xor (times n b) (times n c)) refl
    (λ n ih. times_step n (bit_xor b c)
    ∙ ap₂ bit_xor (digit-xor n b c) (ap (λ (x : ℕ). x * 2) ih ∙ xor_double (times (n / 2) b) (times (n / 2) c))
    ∙ xor_swap (n % 2 * b) (n % 2 * c) (times (n / 2) b * 2) (times (n / 2) c * 2)
    ∙ sym (ap₂ bit_xor (times_step n b) (times_step n c))) a

times_double_right : (a b : ℕ) → times a (b * 2) ≡ times a b * 2
unfolding times
times_double_right a b =
    bin_ind (λ (n : ℕ). times n (b * 2) ≡ times n b * 2) refl
    (λ n ih. times_step n (b * 2) ∙ ap₂ bit_xor (sym (mul_assoc (n % 2) b 2)) (ap (λ (x : ℕ). x * 2) ih)
    ∙ sym (xor_double (n % 2 * b) (times (n / 2) b * 2)) ∙ ap (λ (x : ℕ). x * 2) (sym (times_step n b))) a

times_double_left : (a b : ℕ) → times (a * 2) b ≡ times a b * 2
times_double_left a b = times_step (a * 2) b ∙ simp (mul-mod_left, twice_half, zero-mul)

times_zero : (a : ℕ) → times a 0 ≡ 0
times_zero a = times-xor_right a 0 0 ∙ xor_self (times a 0)

pub times-one : (a : ℕ) → times a 1 ≡ a
unfolding times
times-one =
    bin_ind (λ (n : ℕ). times n 1 ≡ n) refl
    (λ n ih. times_step n 1 ∙ ap₂ (λ (x y : ℕ). bit_xor x (y * 2)) (mul-one (n % 2)) ih ∙ split_digit n)

times-digit : (a n : ℕ) → times a (n % 2) ≡ n % 2 * a
times-digit a n = digit (λ d. times a d ≡ d * a) (times_zero a ∙ sym (zero-mul a)) (times-one a ∙ sym (one-mul a)) n

pub times_comm : (a b : ℕ) → times a b ≡ times b a
unfolding times
times_comm a b =
    bin_ind (λ (n : ℕ). times n b ≡ times b n) (sym (times_zero b))
    (λ n ih. times_step n b
    ∙ ap₂ bit_xor (sym (times-digit b n)) (ap (λ (x : ℕ). x * 2) ih ∙ sym (times_double_right b (n / 2)))
    ∙ sym (times-xor_right b (n % 2) (n / 2 * 2)) ∙ ap (times b) (split_digit n)) a

digit-times : (n b c : ℕ) → times (n % 2 * b) c ≡ n % 2 * times b c
unfolding times
digit-times n b c = digit (λ d. times (d * b) c ≡ d * times b c) (simp zero-mul) (simp one-mul) n

pub times_assoc : (a b c : ℕ) → times (times a b) c ≡ times a (times b c)
unfolding times
times_assoc a b c =
    bin_ind (λ (n : ℕ). times (times n b) c ≡ times n (times b c)) refl
    (λ n ih. ap (λ (x : ℕ). times x c) (times_step n b) ∙ times-xor_left (n % 2 * b) (times (n / 2) b * 2) c
    ∙ ap₂ bit_xor (digit-times n b c) (times_double_left (times (n / 2) b) c ∙ ap (λ (x : ℕ). x * 2) ih)
    ∙ sym (times_step n (times b c))) a

-- ---- the remainder

remainder_step : (p : ℕ) → remainder p ≡ reduce (bit_xor (p % 2) (remainder (p / 2) * 2))
unfolding remainder reduce
remainder_step p = fold_step (λ d r. reduce (bit_xor d (r * 2))) refl p

reduce-xor : (p q : ℕ) → reduce (bit_xor p q) ≡ bit_xor (reduce p) (reduce q)
unfolding reduce
reduce-xor p q =
    ap (λ (x : ℕ). bit_xor (x % 2 * modulus) (bit_xor p q)) (xor_shr p q 8)
    ∙ ap (λ (x : ℕ). bit_xor x (bit_xor p q)) (xor-digit (p / 2 ^ 8) (q / 2 ^ 8) modulus)
    ∙ xor_swap (p / 2 ^ 8 % 2 * modulus) (q / 2 ^ 8 % 2 * modulus) p q

pub remainder-xor : (p q : ℕ) → remainder (bit_xor p q) ≡ bit_xor (remainder p) (remainder q)
unfolding remainder
remainder-xor =
    bin_ind (λ (n : ℕ). (q : ℕ) → remainder (bit_xor n q) ≡ bit_xor (remainder n) (remainder q)) (λ q. refl)
    (λ n ih q. remainder_step (bit_xor n q)
    ∙ ap reduce
    (ap₂ bit_xor (xor_mod n q 1)
    (ap (λ (x : ℕ). x * 2) (ap remainder (xor_half n q) ∙ ih (q / 2)) ∙ xor_double (remainder (n / 2)) (remainder (q / 2)))
    ∙ xor_swap (n % 2) (q % 2) (remainder (n / 2) * 2) (remainder (q / 2) * 2))
    ∙ reduce-xor (bit_xor (n % 2) (remainder (n / 2) * 2)) (bit_xor (q % 2) (remainder (q / 2) * 2))
    ∙ sym (ap₂ bit_xor (remainder_step n) (remainder_step q)))

remainder_double : (p : ℕ) → remainder (p * 2) ≡ reduce (remainder p * 2)
remainder_double p = remainder_step (p * 2) ∙ simp (mul-mod_left, twice_half)

-- below degree 8 there is nothing to reduce
reduce_id : (p : ℕ) → p < 256 → reduce p ≡ p
unfolding reduce
reduce_id p h =
    let e : p / 2 ^ 8 % 2 ≡ 0 = omega arith in
    ap (λ (x : ℕ). bit_xor (x * modulus) p) e

reduce-lt : (p : ℕ) → p < 512 → reduce p < 256
unfolding reduce
reduce-lt p h =
    let e : p / 2 ^ 8 ≡ p / 2 ^ 8 % 2 = omega arith in
    let z : reduce p / 2 ^ 8 ≡ 0 =
    xor_shr (p / 2 ^ 8 % 2 * modulus) p 8
    ∙ ap₂ bit_xor (digit (λ d. d * modulus / 2 ^ 8 ≡ d) refl refl (p / 2 ^ 8)) e
    ∙ xor_self (p / 2 ^ 8 % 2) in
    omega arith

pub remainder-lt : (p : ℕ) → remainder p < 256
unfolding remainder
remainder-lt =
    bin_ind (λ (n : ℕ). remainder n < 256) (zero-lt-suc 255)
    (λ n ih. rw remainder_step
    (reduce-lt (bit_xor (n % 2) (remainder (n / 2) * 2)) (xor_lt 9 (n % 2) (remainder (n / 2) * 2) (omega arith) (omega arith))))

pub remainder_id : (p : ℕ) → p < 256 → remainder p ≡ p
unfolding remainder
remainder_id =
    bin_ind (λ (n : ℕ). n < 256 → remainder n ≡ n) (λ h. refl)
    (λ n ih h. remainder_step n
    ∙ ap reduce (ap (λ (x : ℕ). bit_xor (n % 2) (x * 2)) (ih (omega arith)) ∙ split_digit n) ∙ reduce_id n h)

digit-remainder : (n b : ℕ) → remainder (n % 2 * remainder b) ≡ remainder (n % 2 * b)
digit-remainder n b =
    digit (λ d. remainder (d * remainder b) ≡ remainder (d * b)) (simp zero-mul)
    (simp one-mul (remainder_id (remainder b) (remainder-lt b))) n

-- a factor may be replaced by its remainder
pub remainder-times : (a b : ℕ) → remainder (times a (remainder b)) ≡ remainder (times a b)
unfolding times
remainder-times a b =
    bin_ind (λ (n : ℕ). remainder (times n (remainder b)) ≡ remainder (times n b)) refl
    (λ n ih. split n (remainder b) ∙ ap₂ (λ (x y : ℕ). bit_xor x (reduce (y * 2))) (digit-remainder n b) ih ∙ sym (split n b)) a
  where
    split : (n c : ℕ) → remainder (times n c) ≡ bit_xor (remainder (n % 2 * c)) (reduce (remainder (times (n / 2) c) * 2))
    split n c =
        ap remainder (times_step n c) ∙ remainder-xor (n % 2 * c) (times (n / 2) c * 2)
        ∙ ap (bit_xor (remainder (n % 2 * c))) (remainder_double (times (n / 2) c))
