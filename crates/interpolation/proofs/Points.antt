-- The field as interpolation needs it: sums and products that are zero, and the powers of 2 as 255 different points.
use Rattle.std.specs.Prelude.{◌≡◌, ◌≢◌, ◌-◌, ◌≤◌, ◌<◌}
use Rattle.words.specs.Words.{refl, sym, ap, ◌∙◌, Bool, ℕ, arith, bit_xor, xor_zero_r, eqb, length, get_or}
use lib.Bits.{xor_self}
use lib.Dec.{T, eqb→eq}
use Rattle.field.specs.Gf256.{product}
use Rattle.field.specs.Powers.{inverse, power}
use Rattle.field.specs.Tables.{doublings, logarithm_table}
use Rattle.field.proofs.Xor.{xor_assoc}
use Rattle.field.proofs.Laws.{product_comm, product_assoc, product-one, product-inverse, product-zero_right, power-lt, doublings_at}
use Rattle.field.proofs.Table.{every, at}

-- two numbers whose sum is zero are the same
pub xor_same : (a b : ℕ) → bit_xor a b ≡ 0 → a ≡ b
xor_same a b z = sym (xor_zero_r a) ∙ ap (bit_xor a) (sym (xor_self b)) ∙ sym (xor_assoc a b b) ∙ ap (λ (x : ℕ). bit_xor x b) z

-- the sum of two different bytes is not zero, and a byte
pub apart_positive : (a b : ℕ) → a ≢ b → 0 < bit_xor a b
apart_positive a b d = let n : bit_xor a b ≢ 0 = (λ z. d (xor_same a b z)) in omega arith

pub product_left_comm : (a b c : ℕ) → product a (product b c) ≡ product b (product a c)
product_left_comm a b c = sym (product_assoc a b c) ∙ ap (λ (x : ℕ). product x c) (product_comm a b) ∙ product_assoc b a c

-- no zero divisors
pub product-zero-only : (a b : ℕ) → 0 < a → a < 256 → b < 256 → product a b ≡ 0 → b ≡ 0
product-zero-only a b p h l z =
    sym (product-one b l) ∙ ap (λ (x : ℕ). product x b) (sym (product_comm (inverse a) a ∙ product-inverse a p h))
    ∙ product_assoc (inverse a) a b ∙ ap (product (inverse a)) z ∙ product-zero_right (inverse a)

-- n bytes, all different
pub record Points (n : ℕ) (x : ℕ → ℕ) : Type 0 where
  pub small : (l : ℕ) → l < n → x l < 256
  pub different : (l m : ℕ) → l < n → m < n → x l ≡ x m → l ≡ m

pub fewer : {n : ℕ} {x : ℕ → ℕ} (m : ℕ) → m ≤ n → Points n x → Points m x
fewer m h p = record {
  small = λ l g. p.small l (omega arith);
  different = λ l i g f e. p.different l i (omega arith) (omega arith) e;
}

-- where a power of 2 stands in the table of logarithms, its exponent stands
logarithm_of : ℕ → ℕ → Bool
logarithm_of e x = eqb (get_or logarithm_table (x - 1) 0) e

all_told : T (every logarithm_of 0 (doublings 255 1))
unfolding logarithm_of logarithm_table doublings
all_told = tt

told : (e : ℕ) → e < 255 → get_or logarithm_table (power e - 1) 0 ≡ e
unfolding logarithm_of
told e h =
    let n : length (doublings 255 1) ≡ 255 = unfold doublings in refl in
    ap (λ (x : ℕ). get_or logarithm_table (x - 1) 0) (sym (doublings_at 255 e h))
    ∙ eqb→eq _ _ (at logarithm_of (doublings 255 1) all_told e (omega arith))

-- the first 255 powers of 2 are different
pub powers_differ : (e f : ℕ) → e < 255 → f < 255 → power e ≡ power f → e ≡ f
powers_differ e f h g p = sym (told e h) ∙ ap (λ (x : ℕ). get_or logarithm_table (x - 1) 0) p ∙ told f g

pub powers : Points 255 power
powers = record { small = λ l h. power-lt l; different = λ l m h g e. powers_differ l m h g e }
