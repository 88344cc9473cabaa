-- A polynomial of degree under n with n different roots is zero, so two that agree at n points are the same.
use Rattle.std.specs.Prelude.{◌≡◌, ◌≢◌, ◌∷◌, ◌≤◌, ◌<◌}
use Rattle.words.specs.Words.{refl, sym, ap, ap₂, ◌∙◌, List, [], ℕ, zero, suc, arith, not-suc-le-zero, bit_xor, xor_zero_r, xor_lt}
use Rattle.words.specs.Words.{xor_comm, length, get_or, ext_get_or}
use lib.Bits.{xor_self}
use Rattle.field.specs.Gf256.{product}
use Rattle.field.proofs.Xor.{xor_assoc, xor_swap}
use Rattle.field.proofs.Laws.{product_lt, product-sum, product-sum_right, product-zero_right}
use Rattle.memory.specs.Number.{Bytes}
use Rattle.interpolation.specs.Polynomial.{value, Under}
use Rattle.interpolation.proofs.Points.{xor_same, product_left_comm, apart_positive, product-zero-only, Points, fewer}

pub bytes-more : (c : ℕ) (p : List ℕ) → c < 256 → Bytes p → Bytes (c ∷ p)
bytes-more c p h b zero = h
bytes-more c p h b (suc i) = b i

pub value-lt : (p : List ℕ) → Bytes p → (x : ℕ) → value p x < 256
unfolding value
value-lt [] b x = omega arith
value-lt (c ∷ p) b x = xor_lt 8 c (product x (value p x)) (b 0) (product_lt x (value p x))

xor-taken : (a b n : ℕ) → bit_xor a (bit_xor (bit_xor b a) n) ≡ bit_xor b n
xor-taken a b n =
    sym (xor_assoc a (bit_xor b a) n)
    ∙ ap (λ (x : ℕ). bit_xor x n) (xor_comm a (bit_xor b a) ∙ xor_assoc b a a ∙ ap (bit_xor b) (xor_self a) ∙ xor_zero_r b)

-- ---- division by (x - a)

-- the quotient of c + x p by x - a, whatever c is
quotient : ℕ → List ℕ → List ℕ
quotient a [] = []
quotient a (d ∷ p) = value (d ∷ p) a ∷ quotient a p

quotient_length : (a : ℕ) (p : List ℕ) → length (quotient a p) ≡ length p
unfolding quotient
quotient_length a [] = refl
quotient_length a (d ∷ p) = ap suc (quotient_length a p)

quotient_bytes : (a : ℕ) (p : List ℕ) → Bytes p → Bytes (quotient a p)
unfolding quotient
quotient_bytes a [] b = b
quotient_bytes a (d ∷ p) b = bytes-more (value (d ∷ p) a) (quotient a p) (value-lt (d ∷ p) b a) (quotient_bytes a p (λ i. b (suc i)))

-- x p(x) = a p(a) + (x - a) q(x)
divided : (a x : ℕ) (p : List ℕ) → product x (value p x) ≡ bit_xor (product a (value p a)) (product (bit_xor x a) (value (quotient a p) x))
unfolding quotient value
divided a x [] = product-zero_right x ∙ sym (ap₂ bit_xor (product-zero_right a) (product-zero_right (bit_xor x a)))
divided a x (d ∷ p) =
    let u = bit_xor d (product a (value p a)) in
    let q = value (quotient a p) x in
    let n = product (bit_xor x a) (product x q) in
    ap (λ (z : ℕ). product x (bit_xor d z)) (divided a x p) ∙ ap (product x) (sym (xor_assoc d (product a (value p a)) (product (bit_xor x a) q)))
    ∙ product-sum_right x u (product (bit_xor x a) q) ∙ ap (bit_xor (product x u)) (product_left_comm x (bit_xor x a) q)
    ∙ sym (ap (bit_xor (product a u)) (product-sum_right (bit_xor x a) u (product x q) ∙ ap (λ (z : ℕ). bit_xor z n) (product-sum x a u))
    ∙ xor-taken (product a u) (product x u) n)

-- so where c + x p(x) is zero at a and at another x, q is zero at x
rest_zero : (a x c : ℕ) (p : List ℕ) → Bytes (c ∷ p) → a < 256 → x < 256 → x ≢ a → value (c ∷ p) a ≡ 0 → value (c ∷ p) x ≡ 0
    → value (quotient a p) x ≡ 0
unfolding value
rest_zero a x c p b ha hx d za zx =
    let m = product (bit_xor x a) (value (quotient a p) x) in
    let z : m ≡ 0 =
    ap (λ (z : ℕ). bit_xor z m) (sym za) ∙ xor_assoc c (product a (value p a)) m ∙ ap (bit_xor c) (sym (divided a x p)) ∙ zx in
    product-zero-only (bit_xor x a) (value (quotient a p) x) (apart_positive x a d) (xor_lt 8 x a hx ha)
    (value-lt (quotient a p) (quotient_bytes a p (λ i. b (suc i))) x) z

-- ---- zero polynomials

-- every coefficient is zero
abbrev pub Zeros : List ℕ → Type 0
Zeros p = (i : ℕ) → get_or p i 0 ≡ 0

zeros-value : (p : List ℕ) → Zeros p → (x : ℕ) → value p x ≡ 0
unfolding value
zeros-value [] z x = refl
zeros-value (c ∷ p) z x = ap₂ bit_xor (z 0) (ap (product x) (zeros-value p (λ i. z (suc i)) x) ∙ product-zero_right x)

first-zero : (c : ℕ) (p : List ℕ) → Zeros p → (a : ℕ) → value (c ∷ p) a ≡ 0 → c ≡ 0
unfolding value
first-zero c p z a e =
    sym (xor_zero_r c) ∙ ap (bit_xor c) (sym (ap (product a) (zeros-value p z a) ∙ product-zero_right a)) ∙ e

quotient_zeros : (a : ℕ) (p : List ℕ) → Zeros (quotient a p) → Zeros p
unfolding quotient
quotient_zeros a [] z i = refl
quotient_zeros a (d ∷ p) z zero = first-zero d p (quotient_zeros a p (λ i. z (suc i))) a (z 0)
quotient_zeros a (d ∷ p) z (suc i) = quotient_zeros a p (λ i. z (suc i)) i

-- by one root and the quotient
roots_more : (n : ℕ) (x : ℕ → ℕ) → Points (suc n) x
    → ((p : List ℕ) → Bytes p → length p ≤ n → ((l : ℕ) → l < n → value p (x l) ≡ 0) → Zeros p)
    → (p : List ℕ) → Bytes p → length p ≤ suc n → ((l : ℕ) → l < suc n → value p (x l) ≡ 0) → Zeros p
roots_more n x d ih [] b h r = λ i. refl
roots_more n x d ih (c ∷ p) b h r =
    let a : ℕ = x n in
    let z : value (c ∷ p) a ≡ 0 = r n (omega arith) in
    let rest : Zeros p =
    quotient_zeros a p
    (ih (quotient a p) (quotient_bytes a p (λ i. b (suc i))) (omega (arith, quotient_length a p))
    (λ l g. rest_zero a (x l) c p b (d.small n (omega arith)) (d.small l (omega arith))
    (λ e. let f : l ≡ n = d.different l n (omega arith) (omega arith) e in omega arith) z (r l (omega arith)))) in
    all (first-zero c p rest a z) rest
  where
    all : c ≡ 0 → Zeros p → Zeros (c ∷ p)
    all e f zero = e
    all e f (suc i) = f i

-- a polynomial of degree under n with n different roots is zero
pub roots : (n : ℕ) (x : ℕ → ℕ) → Points n x → (p : List ℕ) → Bytes p → length p ≤ n → ((l : ℕ) → l < n → value p (x l) ≡ 0) → Zeros p
roots zero x d [] b h r = λ i. refl
roots zero x d (c ∷ p) b h r = absurd (not-suc-le-zero h)
roots (suc n) x d p b h r = roots_more n x d (roots n x (fewer n (omega arith) d)) p b h r

-- ---- sums

pub adds : List ℕ → List ℕ → List ℕ
adds [] q = q
adds (c ∷ p) [] = c ∷ p
adds (c ∷ p) (d ∷ q) = bit_xor c d ∷ adds p q

pub adds_value : (p q : List ℕ) (x : ℕ) → value (adds p q) x ≡ bit_xor (value p x) (value q x)
unfolding adds value
adds_value [] q x = refl
adds_value (c ∷ p) [] x = sym (xor_zero_r (value (c ∷ p) x))
adds_value (c ∷ p) (d ∷ q) x =
    ap (λ (z : ℕ). bit_xor (bit_xor c d) (product x z)) (adds_value p q x) ∙ ap (bit_xor (bit_xor c d)) (product-sum_right x (value p x) (value q x))
    ∙ xor_swap c d (product x (value p x)) (product x (value q x))

pub adds_at : (p q : List ℕ) (i : ℕ) → get_or (adds p q) i 0 ≡ bit_xor (get_or p i 0) (get_or q i 0)
unfolding adds
adds_at [] q i = refl
adds_at (c ∷ p) [] i = sym (xor_zero_r (get_or (c ∷ p) i 0))
adds_at (c ∷ p) (d ∷ q) zero = refl
adds_at (c ∷ p) (d ∷ q) (suc i) = adds_at p q i

pub adds_length : (n : ℕ) (p q : List ℕ) → length p ≤ n → length q ≤ n → length (adds p q) ≤ n
unfolding adds
adds_length n [] q h g = g
adds_length n (c ∷ p) [] h g = h
adds_length zero (c ∷ p) (d ∷ q) h g = absurd (not-suc-le-zero h)
adds_length (suc n) (c ∷ p) (d ∷ q) h g = let t = adds_length n p q (omega arith) (omega arith) in omega arith

pub adds_bytes : (p q : List ℕ) → Bytes p → Bytes q → Bytes (adds p q)
adds_bytes p q b c i = rw adds_at (xor_lt 8 (get_or p i 0) (get_or q i 0) (b i) (c i))

-- two polynomials of degree under k that agree at k different points are the same
pub agree_same : (k n : ℕ) → k ≤ n → (x : ℕ → ℕ) → Points n x → (p q : List ℕ) → Under k p → Under k q
    → ((l : ℕ) → l < n → value p (x l) ≡ value q (x l)) → p ≡ q
agree_same k n h x d p q u w e =
    let z : Zeros (adds p q) =
    roots n x d (adds p q) (adds_bytes p q u.bytes w.bytes)
    (adds_length n p q (omega (arith, u.size)) (omega (arith, w.size)))
    (λ l g. adds_value p q (x l) ∙ ap (λ (t : ℕ). bit_xor t (value q (x l))) (e l g) ∙ xor_self (value q (x l))) in
    ext_get_or 0 p q (u.size ∙ sym w.size) (λ i g. xor_same _ _ (sym (adds_at p q i) ∙ z i))
