-- Lagrange's formula: the terms are polynomials, and their sum is one that has given values at given points.
use Rattle.std.specs.Prelude.{◌≡◌, ◌≢◌, ◌∷◌, ◌≤◌, ◌<◌}
use Rattle.words.specs.Words.{refl, sym, ap, ap₂, ◌∙◌, Bool, true, false, List, [], ℕ, zero, suc, arith, not-suc-le-zero, ℕ_discrete}
use Rattle.words.specs.Words.{bit_xor, xor_zero_r, xor_lt, xor_comm, eqb, length, eqb-true, eqb-false}
use lib.Bits.{xor_self}
use Rattle.field.specs.Gf256.{product}
use Rattle.field.specs.Powers.{inverse}
use Rattle.field.proofs.Xor.{xor_assoc}
use Rattle.field.proofs.Laws.{product_lt, product_comm, product_assoc, product-sum, product-sum_right, product-zero, product-zero_right, product-one}
use Rattle.field.proofs.Laws.{product-inverse}
use Rattle.memory.specs.Number.{Bytes}
use Rattle.rows.specs.Combination.{dot}
use Rattle.interpolation.specs.Polynomial.{value}
use Rattle.interpolation.specs.Lagrange.{others, term}
use Rattle.interpolation.proofs.Points.{product_left_comm, apart_positive, Points}
use Rattle.interpolation.proofs.Factor.{factor}
use Rattle.interpolation.proofs.Roots.{bytes-more, adds, adds_value, adds_length, adds_bytes}

-- ---- functions that are polynomials

-- f is a polynomial with at most n coefficients
pub record Polynomial (n : ℕ) (f : ℕ → ℕ) : Type 0 where
  pub list : List ℕ
  pub size : length list ≤ n
  pub bytes : Bytes list
  pub value-is : (x : ℕ) → value list x ≡ f x

same : {n : ℕ} {f g : ℕ → ℕ} → Polynomial n f → ((x : ℕ) → f x ≡ g x) → Polynomial n g
same p e = record { list = p.list; size = p.size; bytes = p.bytes; value-is = λ x. p.value-is x ∙ e x }

none : (n : ℕ) → Polynomial n (λ x. 0)
unfolding value
none n = record { list = []; size = omega arith; bytes = λ i. omega arith; value-is = λ x. refl }

one : Polynomial 1 (λ x. 1)
unfolding value
one = record {
  list = 1 ∷ [];
  size = omega arith;
  bytes = bytes-more 1 [] (omega arith) (λ i. omega arith);
  value-is = λ x. ap (bit_xor 1) (product-zero_right x);
}

plus : {n : ℕ} {f g : ℕ → ℕ} → Polynomial n f → Polynomial n g → Polynomial n (λ x. bit_xor (f x) (g x))
plus p q = record {
  list = adds p.list q.list;
  size = adds_length _ p.list q.list p.size q.size;
  bytes = adds_bytes p.list q.list p.bytes q.bytes;
  value-is = λ x. adds_value p.list q.list x ∙ ap₂ bit_xor (p.value-is x) (q.value-is x);
}

-- c p
scales : ℕ → List ℕ → List ℕ
scales c [] = []
scales c (d ∷ p) = product c d ∷ scales c p

scales_length : (c : ℕ) (p : List ℕ) → length (scales c p) ≡ length p
unfolding scales
scales_length c [] = refl
scales_length c (d ∷ p) = ap suc (scales_length c p)

scales_bytes : (c : ℕ) (p : List ℕ) → Bytes (scales c p)
unfolding scales
scales_bytes c [] i = omega arith
scales_bytes c (d ∷ p) zero = product_lt c d
scales_bytes c (d ∷ p) (suc i) = scales_bytes c p i

scales_value : (c : ℕ) (p : List ℕ) (x : ℕ) → value (scales c p) x ≡ product c (value p x)
unfolding scales value
scales_value c [] x = sym (product-zero_right c)
scales_value c (d ∷ p) x =
    ap (λ (z : ℕ). bit_xor (product c d) (product x z)) (scales_value c p x)
    ∙ ap (bit_xor (product c d)) (product_left_comm x c (value p x)) ∙ sym (product-sum_right c d (product x (value p x)))

multiple : {n : ℕ} {f : ℕ → ℕ} (c : ℕ) → Polynomial n f → Polynomial n (λ x. product c (f x))
multiple c p = record {
  list = scales c p.list;
  size = omega (arith, scales_length c p.list, p.size);
  bytes = scales_bytes c p.list;
  value-is = λ x. scales_value c p.list x ∙ ap (product c) (p.value-is x);
}

-- b + (x - a) p
linear : (a b : ℕ) → List ℕ → List ℕ
linear a b [] = b ∷ []
linear a b (c ∷ p) = bit_xor b (product a c) ∷ linear a c p

linear_length : (a b : ℕ) (p : List ℕ) → length (linear a b p) ≡ suc (length p)
unfolding linear
linear_length a b [] = refl
linear_length a b (c ∷ p) = ap suc (linear_length a c p)

linear_bytes : (a b : ℕ) (p : List ℕ) → b < 256 → Bytes p → Bytes (linear a b p)
unfolding linear
linear_bytes a b [] h t = bytes-more b [] h t
linear_bytes a b (c ∷ p) h t =
    bytes-more (bit_xor b (product a c)) (linear a c p) (xor_lt 8 b (product a c) h (product_lt a c)) (linear_bytes a c p (t 0) (λ i. t (suc i)))

linear_value : (a b : ℕ) (p : List ℕ) (x : ℕ) → value (linear a b p) x ≡ bit_xor b (product (bit_xor x a) (value p x))
unfolding linear value
linear_value a b [] x = ap (bit_xor b) (product-zero_right x ∙ sym (product-zero_right (bit_xor x a)))
linear_value a b (c ∷ p) x =
    let v = value p x in
    let m = product (bit_xor x a) v in
    -- (b + a c) + x (c + m) = b + (x + a) (c + x v)
    ap (λ (z : ℕ). bit_xor (bit_xor b (product a c)) (product x z)) (linear_value a c p x) ∙ xor_assoc b (product a c) (product x (bit_xor c m))
    ∙ ap (bit_xor b)
    (ap (bit_xor (product a c)) (product-sum_right x c m) ∙ sym (xor_assoc (product a c) (product x c) (product x m))
    ∙ ap₂ bit_xor (xor_comm (product a c) (product x c) ∙ sym (product-sum x a c)) (product_left_comm x (bit_xor x a) v)
    ∙ sym (product-sum_right (bit_xor x a) c (product x v)))

times_linear : {n : ℕ} {f : ℕ → ℕ} (a : ℕ) → Polynomial n f → Polynomial (suc n) (λ x. product (bit_xor x a) (f x))
times_linear a p = record {
  list = linear a 0 p.list;
  size = omega (arith, linear_length a 0 p.list, p.size);
  bytes = linear_bytes a 0 p.list (omega arith) p.bytes;
  value-is = λ x. linear_value a 0 p.list x ∙ ap (product (bit_xor x a)) (p.value-is x);
}

-- ---- the terms

module _ (i : ℕ) (g : ℕ → ℕ) where
  pub others_own : (n : ℕ) → n ≡ i → others i g (suc n) ≡ others i g n
  unfolding others
  others_own n e = go (eqb n i) refl
    where
      go : (t : Bool) → eqb n i ≡ t → elim t as (λ _. ℕ) [ true ↦ others i g n | false ↦ product (others i g n) (g n) ] ≡ others i g n
      go true q = refl
      go false q = absurd (eqb-false _ _ q e)

  pub others-more : (n : ℕ) → n ≢ i → others i g (suc n) ≡ product (others i g n) (g n)
  unfolding others
  others-more n d = go (eqb n i) refl
    where
      go : (t : Bool) → eqb n i ≡ t → elim t as (λ _. ℕ) [ true ↦ others i g n | false ↦ product (others i g n) (g n) ] ≡ product (others i g n) (g n)
      go true q = absurd (d (eqb-true _ _ q))
      go false q = refl

module _ (x : ℕ → ℕ) (i : ℕ) where
  term_own : (n y : ℕ) → n ≡ i → term x (suc n) i y ≡ term x n i y
  unfolding term
  term_own n y e = others_own i (factor x i y) n e

  term-more : (n y : ℕ) → n ≢ i → term x (suc n) i y ≡ product (term x n i y) (factor x i y n)
  unfolding term
  term-more n y d = others-more i (factor x i y) n d

  times_factor : (n m : ℕ) → m ≢ i → Polynomial n (term x m i) → Polynomial (suc n) (term x (suc m) i)
  times_factor n m d p =
      let w = inverse (bit_xor (x i) (x m)) in
      same (times_linear (x m) (multiple w p))
      (λ y. product_left_comm (bit_xor y (x m)) w (term x m i y) ∙ sym (product_assoc w (bit_xor y (x m)) (term x m i y))
      ∙ product_comm (product w (bit_xor y (x m))) (term x m i y)
      ∙ ap (product (term x m i y)) (product_comm w (bit_xor y (x m))) ∙ sym (term-more m y d))

  -- a term has a factor for each point but its own
  term-before : (n : ℕ) → n ≤ i → Polynomial (suc n) (term x n i)
  unfolding term others
  term-before zero h = one
  term-before (suc n) h = times_factor (suc n) n (λ e. omega arith) (term-before n (omega arith))

  term-after : (n : ℕ) → i < n → Polynomial n (term x n i)
  term-after zero h = absurd (not-suc-le-zero h)
  term-after (suc n) h = go (ℕ_discrete n i) (term-after n)
    where
      go : Dec (n ≡ i) → (i < n → Polynomial n (term x n i)) → Polynomial (suc n) (term x (suc n) i)
      go (yes e) ih = same (term-before n (omega arith)) (λ y. sym (term_own n y e))
      go (no d) ih = times_factor n n d (ih (omega arith))

  -- a term is 1 at its own point and 0 at the others
  pub term-one : (n k : ℕ) → n ≤ k → i < k → Points k x → term x n i (x i) ≡ 1
  unfolding term others
  term-one zero k h l d = refl
  term-one (suc n) k h l d = go (ℕ_discrete n i) (term-one n k (omega arith) l d)
    where
      go : Dec (n ≡ i) → term x n i (x i) ≡ 1 → term x (suc n) i (x i) ≡ 1
      go (yes e) ih = term_own n (x i) e ∙ ih
      go (no e) ih =
          let b = bit_xor (x i) (x n) in
          let p : 0 < b = apart_positive (x i) (x n) (λ q. e (sym (d.different i n l (omega arith) q))) in
          let s : b < 256 = xor_lt 8 (x i) (x n) (d.small i l) (d.small n (omega arith)) in
          term-more n (x i) e ∙ ap₂ product ih (product-inverse b p s) ∙ product-one 1 (omega arith)

  pub term-zero : (n m : ℕ) → m < n → m ≢ i → term x n i (x m) ≡ 0
  term-zero zero m h d = absurd (not-suc-le-zero h)
  term-zero (suc n) m h d = go (ℕ_discrete m n) (term-zero n m)
    where
      go : Dec (m ≡ n) → (m < n → m ≢ i → term x n i (x m) ≡ 0) → term x (suc n) i (x m) ≡ 0
      go (yes e) ih =
          term-more n (x m) (λ q. d (e ∙ q))
          ∙ ap (product (term x n i (x m)))
          (ap (λ (z : ℕ). product z (inverse (bit_xor (x i) (x n)))) (ap (λ (z : ℕ). bit_xor (x m) (x z)) (sym e) ∙ xor_self (x m))
          ∙ product-zero (inverse (bit_xor (x i) (x n))))
          ∙ product-zero_right (term x n i (x m))
      go (no e) ih = last (ℕ_discrete n i)
        where
          z : term x n i (x m) ≡ 0
          z = ih (omega arith) d

          last : Dec (n ≡ i) → term x (suc n) i (x m) ≡ 0
          last (yes q) = term_own n (x m) q ∙ z
          last (no q) = term-more n (x m) q ∙ ap (λ (t : ℕ). product t (factor x i (x m) n)) z ∙ product-zero (factor x i (x m) n)

-- ---- the sum of the terms

-- a sum of which one term is left
dot-only : (c s : ℕ → ℕ) (n m : ℕ) → m < n → c m ≡ 1 → ((i : ℕ) → i < n → i ≢ m → c i ≡ 0) → s m < 256 → dot c s n ≡ s m
dot-only c s zero m h o z l = absurd (not-suc-le-zero h)
dot-only c s (suc n) m h o z l = go (ℕ_discrete m n) (dot-only c s n m)
  where
    go : Dec (m ≡ n) → (m < n → c m ≡ 1 → ((i : ℕ) → i < n → i ≢ m → c i ≡ 0) → s m < 256 → dot c s n ≡ s m)
        → bit_xor (dot c s n) (product (c n) (s n)) ≡ s m
    go (yes e) ih =
        ap₂ bit_xor (dot-none n (λ i g. z i (omega arith) (λ q. omega arith))) (ap (λ (t : ℕ). product (c t) (s t)) (sym e) ∙ ap (λ (t : ℕ). product t (s m)) o ∙ product-one (s m) l)
      where
        dot-none : (n : ℕ) → ((i : ℕ) → i < n → c i ≡ 0) → dot c s n ≡ 0
        dot-none zero z = refl
        dot-none (suc n) z = ap₂ bit_xor (dot-none n (λ i g. z i (omega arith))) (ap (λ (t : ℕ). product t (s n)) (z n (omega arith)) ∙ product-zero (s n))
    go (no e) ih =
        ap₂ bit_xor (ih (omega arith) o (λ i g. z i (omega arith)) l)
        (ap (λ (t : ℕ). product t (s n)) (z n (omega arith) (λ q. e (sym q))) ∙ product-zero (s n))
        ∙ xor_zero_r (s m)

module _ (k : ℕ) (x : ℕ → ℕ) (s : ℕ → ℕ) where
  -- the sum of the terms of k points, each times its value
  abbrev pub interpolated : ℕ → ℕ
  interpolated y = dot (λ i. term x k i y) s k

  pub interpolated_at : Points k x → (m : ℕ) → m < k → s m < 256 → interpolated (x m) ≡ s m
  interpolated_at d m h l =
      dot-only (λ i. term x k i (x m)) s k m h (term-one x m k k (omega arith) h d) (λ i g e. term-zero x i k m h (λ q. e (sym q))) l

  pub interpolated_polynomial : Polynomial k interpolated
  interpolated_polynomial = sum k (omega arith)
    where
      sum : (n : ℕ) → n ≤ k → Polynomial k (λ y. dot (λ i. term x k i y) s n)
      sum zero h = none k
      sum (suc n) h =
          plus (sum n (omega arith)) (same (multiple (s n) (term-after x n k (omega arith))) (λ y. product_comm (s n) (term x k n y)))
