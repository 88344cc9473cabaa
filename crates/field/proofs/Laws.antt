-- The laws of GF(2^8), by group:
--   the product: product_lt, product_comm, product_assoc, product-sum, product-zero, product-zero_right, product-sum_right, product-one
--   the powers of 2: power-lt, power-sum, power_reduced
--   the tables: doublings_at, logarithms_at
--   inverses: inverse_unique, inverse-lt, inverse-is, inverse-power, product-inverse
--   the operations by logarithms: product_by_logarithms, inverse_by_logarithm, inverse-zero
use Rattle.std.specs.Prelude.{◌≡◌, ◌≤◌, ◌+◌, ◌<◌, ◌-◌, ◌%◌, ◌*◌, ◌/◌, ◌&&◌}
use Rattle.words.specs.Words.{arith, ℕ, List, length, refl, ◌∙◌, sym, ap, suc, true, zero, get_or, false, Bool, ap₂, ltb, eqb}
use Rattle.words.specs.Words.{add-zero, bit_xor, not-suc-le-zero, zero-add, le_of_suc-le-suc, zero-mul, eqb-true, add-suc, eqb-false, suc-add}
use native.Mathlib.Nat.{div-add-mod'}
use lib.Arith.{lt_of_le-ne}
use lib.Dec.{T, eqb→eq, ltb→lt}
use lib.Ieee.Fits.{and_l, and_r}
use Rattle.field.specs.Gf256.{product, times, remainder}
use Rattle.field.specs.Powers.{power, inverse_below, inverse}
use Rattle.field.specs.Tables.{doublings, logarithm_table}
use Rattle.field.specs.Logarithm.{IsLogarithm}
use Rattle.field.proofs.Polynomial.{times_comm, times_assoc, times-one, times-xor_left, remainder-xor, remainder-times, remainder_id, remainder-lt}
use Rattle.field.proofs.Table.{every, at}

-- ---- the product

pub product_lt : (a b : ℕ) → product a b < 256
unfolding product
product_lt a b = remainder-lt (times a b)

pub product_comm : (a b : ℕ) → product a b ≡ product b a
unfolding product
product_comm a b = ap remainder (times_comm a b)

pub product_assoc : (a b c : ℕ) → product (product a b) c ≡ product a (product b c)
unfolding product
product_assoc a b c =
    ap remainder (times_comm (remainder (times a b)) c) ∙ remainder-times c (times a b)
    ∙ ap remainder (times_comm c (times a b) ∙ times_assoc a b c) ∙ sym (remainder-times a (times b c))

pub product-sum : (a b c : ℕ) → product (bit_xor a b) c ≡ bit_xor (product a c) (product b c)
unfolding product
product-sum a b c = ap remainder (times-xor_left a b c) ∙ remainder-xor (times a c) (times b c)

pub product-zero : (a : ℕ) → product 0 a ≡ 0
unfolding product
product-zero a = refl

pub product-zero_right : (a : ℕ) → product a 0 ≡ 0
product-zero_right a = product_comm a 0 ∙ product-zero a

pub product-sum_right : (c a b : ℕ) → product c (bit_xor a b) ≡ bit_xor (product c a) (product c b)
product-sum_right c a b = product_comm c (bit_xor a b) ∙ product-sum a b c ∙ ap₂ bit_xor (product_comm a c) (product_comm b c)

pub product-one : (a : ℕ) → a < 256 → product 1 a ≡ a
unfolding product
product-one a h = ap remainder (times_comm 1 a ∙ times-one a) ∙ remainder_id a h

-- ---- the powers of 2

pub power-lt : (n : ℕ) → power n < 256
unfolding power
power-lt zero = omega arith
power-lt (suc n) = product_lt 2 (power n)

pub power-sum : (m n : ℕ) → power (m + n) ≡ product (power m) (power n)
unfolding power
power-sum zero n = ap power (zero-add n) ∙ sym (product-one (power n) (power-lt n))
power-sum (suc m) n = ap power (suc-add m n) ∙ ap (product 2) (power-sum m n) ∙ sym (product_assoc 2 (power m) (power n))

power_255 : power 255 ≡ 1
unfolding power product
power_255 = refl

-- the powers repeat after 255 of them
pub power_reduced : (e : ℕ) → power (e % 255) ≡ power e
power_reduced e = sym (go (e / 255) (e % 255)) ∙ ap power (div-add-mod' e 255)
  where
    go : (q r : ℕ) → power (q * 255 + r) ≡ power r
    go zero r = ap power (simp (zero-mul, zero-add))
    go (suc q) r =
        let s : suc q * 255 + r ≡ 255 + (q * 255 + r) = omega arith in
        ap power s ∙ power-sum 255 (q * 255 + r) ∙ ap₂ product power_255 (go q r) ∙ product-one (power r) (power-lt r)

-- ---- the tables

pub doublings_at : (n k : ℕ) → k < n → get_or (doublings n 1) k 0 ≡ power k
unfolding doublings power
doublings_at n k h = go n 0 k h ∙ ap power (add-zero k)
  where
    go : (n m k : ℕ) → k < n → get_or (doublings n (power m)) k 0 ≡ power (k + m)
    go zero m k h = absurd (not-suc-le-zero h)
    go (suc n) m zero h = ap power (sym (zero-add m))
    go (suc n) m (suc k) h = go n (suc m) k (le_of_suc-le-suc h) ∙ ap power (add-suc k m ∙ sym (suc-add k m))

-- l is the logarithm of i + 1, where ps has the powers from 1 on
right : List ℕ → ℕ → ℕ → Bool
right ps i l = ltb l 255 && eqb (get_or ps l 0) (suc i)

all_right : T (every (right (doublings 255 1)) 0 logarithm_table)
unfolding logarithm_table right
all_right = tt

pub logarithms_at : (a : ℕ) → 0 < a → a < 256 → IsLogarithm a (get_or logarithm_table (a - 1) 0)
unfolding right
logarithms_at a p h =
    let e : ℕ = get_or logarithm_table (a - 1) 0 in
    let n : length logarithm_table ≡ 255 = unfold logarithm_table in refl in
    let r = at (right (doublings 255 1)) logarithm_table all_right (a - 1) (omega arith) in
    let l : e < 255 = ltb→lt e 255 (and_l (ltb e 255) _ r) in
    let s : suc (a - 1) ≡ a = omega arith in
    record { small = l; power-is = sym (doublings_at 255 e l) ∙ eqb→eq _ _ (and_r (ltb e 255) _ r) ∙ s }

-- ---- inverses

-- a number has one inverse
pub inverse_unique : (a b c : ℕ) → b < 256 → c < 256 → product a b ≡ 1 → product a c ≡ 1 → b ≡ c
inverse_unique a b c hb hc p q =
    sym (product-one b hb) ∙ ap (λ (x : ℕ). product x b) (sym q ∙ product_comm a c) ∙ product_assoc c a b ∙ ap (product c) p
    ∙ product_comm c 1 ∙ product-one c hc

inverse-found : (n a b : ℕ) → b < n → n ≤ 256 → product a b ≡ 1 → inverse_below n a ≡ b
unfolding inverse_below
inverse-found zero a b h l p = absurd (not-suc-le-zero h)
inverse-found (suc n) a b h l p = go (eqb (product a n) 1) refl (inverse-found n a b)
  where
    go : (t : Bool) → eqb (product a n) 1 ≡ t → (b < n → n ≤ 256 → product a b ≡ 1 → inverse_below n a ≡ b)
        → elim t [ true ↦ n | false ↦ inverse_below n a ] ≡ b
    go true e ih = inverse_unique a n b (omega arith) (omega arith) (eqb-true _ _ e) p
    go false e ih =
        ih (lt_of_le-ne (le_of_suc-le-suc h) (λ q. eqb-false _ _ e (ap (product a) (sym q) ∙ p))) (omega arith) p

inverse_below_lt : (n a : ℕ) → n ≤ 256 → inverse_below n a < 256
unfolding inverse_below
inverse_below_lt zero a l = omega arith
inverse_below_lt (suc n) a l = go (eqb (product a n) 1) (inverse_below_lt n a (omega arith))
  where
    go : (t : Bool) → inverse_below n a < 256 → elim t as (λ _. ℕ) [ true ↦ n | false ↦ inverse_below n a ] < 256
    go true ih = omega arith
    go false ih = ih

pub inverse-lt : (a : ℕ) → inverse a < 256
unfolding inverse
inverse-lt a = inverse_below_lt 256 a (omega arith)

-- what is an inverse is the inverse
pub inverse-is : (a b : ℕ) → b < 256 → product a b ≡ 1 → inverse a ≡ b
unfolding inverse
inverse-is a b h p = inverse-found 256 a b h (omega arith) p

-- the inverse by logarithm_table
pub inverse-power : (a e : ℕ) → IsLogarithm a e → product a (power (255 - e)) ≡ 1
inverse-power a e l =
    let s : e + (255 - e) ≡ 255 = omega arith in
    ap (λ (x : ℕ). product x (power (255 - e))) (sym l.power-is) ∙ sym (power-sum e (255 - e)) ∙ ap power s ∙ power_255

pub product-inverse : (a : ℕ) → 0 < a → a < 256 → product a (inverse a) ≡ 1
product-inverse a p h =
    let e : ℕ = get_or logarithm_table (a - 1) 0 in
    let q : product a (power (255 - e)) ≡ 1 = inverse-power a e (logarithms_at a p h) in
    ap (product a) (inverse-is a (power (255 - e)) (power-lt (255 - e)) q) ∙ q

-- ---- the operations by logarithms

pub product_by_logarithms : (a b e f : ℕ) → IsLogarithm a e → IsLogarithm b f → power (e + f) ≡ product a b
product_by_logarithms a b e f l m = power-sum e f ∙ ap₂ product l.power-is m.power-is

pub inverse_by_logarithm : (a e : ℕ) → IsLogarithm a e → power (255 - e) ≡ inverse a
inverse_by_logarithm a e l = sym (inverse-is a (power (255 - e)) (power-lt (255 - e)) (inverse-power a e l))

pub inverse-zero : inverse 0 ≡ 0
unfolding inverse inverse_below product
inverse-zero = refl
