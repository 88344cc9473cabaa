-- Laws of `bit_xor` that `lib.Bits` lacks, and induction on binary digits.
use Rattle.std.specs.Prelude.{◌≡◌, ◌+◌, ◌<◌, ◌%◌, ◌*◌, ◌/◌}
use Rattle.words.specs.Words.{ℕ, refl, ◌∙◌, sym, ap, suc, zero, ap₂, mod-lt, add-zero, bit_xor, not-suc-le-zero, le_of_suc-le-suc}
use Rattle.words.specs.Words.{zero-mul, xor_zero_r, one-mul, xor_comm}
pub use Rattle.std.specs.Int.Bits.{xor_assoc}
use native.Mathlib.Nat.{div-add-mod', zero-lt-suc}
use lib.Bits.{differ, xor_shr, xor_mod, xor_self, xor_block, xor_shifted}

-- what holds of 0 and of 1 holds of a number below 2
pub binary : (P : ℕ → Type 0) → P 0 → P 1 → (c : ℕ) → c < 2 → P c
binary P p q zero h = p
binary P p q (suc zero) h = q
binary P p q (suc (suc c)) h = absurd (not-suc-le-zero (le_of_suc-le-suc (le_of_suc-le-suc h)))

-- and of a binary digit
pub digit : (P : ℕ → Type 0) → P 0 → P 1 → (n : ℕ) → P (n % 2)
digit P p q n = binary P p q (n % 2) (mod-lt n (zero-lt-suc 1))

-- two numbers are equal if their last digits are, and what stands above those
pub same_digits : {a b : ℕ} → a / 2 ≡ b / 2 → a % 2 ≡ b % 2 → a ≡ b
same_digits {a} {b} p q = sym (div-add-mod' a 2) ∙ ap₂ (λ (x y : ℕ). x * 2 + y) p q ∙ div-add-mod' b 2

pub xor_half : (a b : ℕ) → bit_xor a b / 2 ≡ bit_xor (a / 2) (b / 2)
xor_half a b = xor_shr a b 1

pub xor_odd : (a b : ℕ) → bit_xor a b % 2 ≡ differ (a % 2) (b % 2)
xor_odd a b =
    xor_mod a b 1
    ∙ digit (λ x. bit_xor x (b % 2) ≡ differ x (b % 2)) refl (digit (λ y. bit_xor 1 y ≡ differ 1 y) refl refl b) a

-- (a + b) + (c + d) = (a + c) + (b + d)
pub xor_swap : (a b c d : ℕ) → bit_xor (bit_xor a b) (bit_xor c d) ≡ bit_xor (bit_xor a c) (bit_xor b d)
xor_swap a b c d =
    xor_assoc a b (bit_xor c d)
    ∙ ap (bit_xor a) (sym (xor_assoc b c d) ∙ ap (λ (x : ℕ). bit_xor x d) (xor_comm b c) ∙ xor_assoc c b d)
    ∙ sym (xor_assoc a c (bit_xor b d))

pub xor_double : (a b : ℕ) → bit_xor a b * 2 ≡ bit_xor (a * 2) (b * 2)
xor_double a b = sym (simp add-zero at (xor_block 1 a b 0 0 (zero-lt-suc 1) (zero-lt-suc 1)))

-- a digit times a sum
pub digit-xor : (n a b : ℕ) → n % 2 * bit_xor a b ≡ bit_xor (n % 2 * a) (n % 2 * b)
digit-xor n a b = digit (λ d. d * bit_xor a b ≡ bit_xor (d * a) (d * b)) (simp zero-mul) (simp one-mul) n

-- the sum of two digits, times a number
pub xor-digit : (m n a : ℕ) → bit_xor m n % 2 * a ≡ bit_xor (m % 2 * a) (n % 2 * a)
xor-digit m n a =
    ap (λ (x : ℕ). x * a) (xor_odd m n)
    ∙ digit (λ x. differ x (n % 2) * a ≡ bit_xor (x * a) (n % 2 * a)) (simp zero-mul)
    (digit (λ y. differ 1 y * a ≡ bit_xor (1 * a) (y * a)) (simp (zero-mul, xor_zero_r)) (simp (zero-mul, xor_self)) n) m

-- a number is its last digit and x times the rest
pub split_digit : (a : ℕ) → bit_xor (a % 2) (a / 2 * 2) ≡ a
split_digit a = xor_comm (a % 2) (a / 2 * 2) ∙ xor_shifted (a / 2) 1 (a % 2) (mod-lt a (zero-lt-suc 1)) ∙ div-add-mod' a 2
