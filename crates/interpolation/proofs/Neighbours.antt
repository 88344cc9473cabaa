-- The coefficient of one source symbol from that of the one before it: since each point is twice the one before, all but a few factors cancel.
use Rattle.std.specs.Prelude.{◌≡◌, ◌≢◌, ◌+◌, ◌-◌, ◌≤◌, ◌<◌}
use Rattle.words.specs.Words.{refl, sym, ap, ap₂, ◌∙◌, ℕ, zero, suc, arith, not-suc-le-zero, ℕ_discrete, add-one, bit_xor, xor_lt}
use Rattle.field.specs.Gf256.{product}
use Rattle.field.specs.Powers.{inverse, power}
use Rattle.field.proofs.Laws.{product_lt, product_comm, product_assoc, product-sum_right, product-one, product-zero, product-inverse, power-lt, power-sum}
use Rattle.field.proofs.Laws.{power_reduced}
use Rattle.interpolation.specs.Lagrange.{others, term, lagrange}
use Rattle.interpolation.proofs.Points.{product_left_comm, apart_positive, product-zero-only, Points, fewer, powers, powers_differ}
use Rattle.interpolation.proofs.Terms.{others_own, others-more}

-- ---- products that are not zero

pub product_positive : (a b : ℕ) → 0 < a → a < 256 → 0 < b → b < 256 → 0 < product a b
product_positive a b p h q l = let n : product a b ≢ 0 = (λ z. let e = product-zero-only a b p h l z in omega arith) in omega arith

pub power_positive : (n : ℕ) → n < 255 → 0 < power n
power_positive n h =
    let n255 : power 255 ≡ 1 = sym (power_reduced 255) ∙ (unfold power in refl) in
    let s : n + (255 - n) ≡ 255 = omega arith in
    let d : power n ≢ 0 =
    (λ z. let o : ◌≡◌ {A = ℕ} 0 1 = sym (product-zero (power (255 - n))) ∙ ap (λ (x : ℕ). product x (power (255 - n))) (sym z)
    ∙ sym (power-sum n (255 - n)) ∙ ap power s ∙ n255 in omega arith) in
    omega arith

cancel : (d a b : ℕ) → 0 < d → d < 256 → a < 256 → b < 256 → product d a ≡ product d b → a ≡ b
cancel d a b p h ha hb e =
    let i : product (inverse d) d ≡ 1 = product_comm (inverse d) d ∙ product-inverse d p h in
    sym (product-one a ha) ∙ ap (λ (x : ℕ). product x a) (sym i) ∙ product_assoc (inverse d) d a ∙ ap (product (inverse d)) e
    ∙ sym (product_assoc (inverse d) d b) ∙ ap (λ (x : ℕ). product x b) i ∙ product-one b hb

-- a factor for a quotient
divide : (a b u w : ℕ) → 0 < w → w < 256 → a < 256 → product a w ≡ product b u → a ≡ product b (product u (inverse w))
divide a b u w p h l e =
    sym (product_comm a 1 ∙ product-one a l) ∙ ap (product a) (sym (product-inverse w p h)) ∙ sym (product_assoc a w (inverse w))
    ∙ ap (λ (x : ℕ). product x (inverse w)) e ∙ product_assoc b u (inverse w)

-- ---- products over points

-- the product of all the g m
all : (g : ℕ → ℕ) (n : ℕ) → ℕ
all g zero = 1
all g (suc n) = product (all g n) (g n)

module _ (i : ℕ) (g : ℕ → ℕ) where
  all_before : (n : ℕ) → n ≤ i → others i g n ≡ all g n
  unfolding all others
  all_before zero h = refl
  all_before (suc n) h = others-more i g n (λ e. omega arith) ∙ ap (λ (x : ℕ). product x (g n)) (all_before n (omega arith))

  -- the others, and then the own
  all_others : (n : ℕ) → i < n → product (others i g n) (g i) ≡ all g n
  unfolding all
  all_others zero h = absurd (not-suc-le-zero h)
  all_others (suc n) h = go (ℕ_discrete n i) (all_others n)
    where
      go : Dec (n ≡ i) → (i < n → product (others i g n) (g i) ≡ all g n) → product (others i g (suc n)) (g i) ≡ product (all g n) (g n)
      go (yes e) ih = ap₂ product (others_own i g n e ∙ all_before n (omega arith)) (ap g (sym e))
      go (no e) ih =
          ap (λ (x : ℕ). product x (g i)) (others-more i g n e)
          ∙ simp (product_assoc, product_left_comm, product_comm) (simp (product_left_comm, product_comm) at (ap (product (g n)) (ih (omega arith))))

  others_small : (n : ℕ) → others i g n < 256
  unfolding others
  others_small zero = omega arith
  others_small (suc n) = go (ℕ_discrete n i) (others_small n)
    where
      go : Dec (n ≡ i) → others i g n < 256 → others i g (suc n) < 256
      go (yes e) ih = rw (others_own i g n e) ih
      go (no e) ih = rw (others-more i g n e) (product_lt (others i g n) (g n))

  others_positive : (n : ℕ) → ((m : ℕ) → m < n → m ≢ i → (0 < g m) × (g m < 256)) → 0 < others i g n
  unfolding others
  others_positive zero p = omega arith
  others_positive (suc n) p = go (ℕ_discrete n i) (others_positive n (λ m h d. p m (omega arith) d))
    where
      go : Dec (n ≡ i) → 0 < others i g n → 0 < others i g (suc n)
      go (yes e) ih = rw (others_own i g n e) ih
      go (no e) ih =
          let (q, l) = p n (omega arith) e in
          rw (others-more i g n e) (product_positive (others i g n) (g n) ih (others_small n) q l)

-- ---- numerator and denominator of a term

regroup : (a t v b g : ℕ) → product (product a (product t v)) (product b g) ≡ product (product a b) (product t (product g v))
regroup a t v b g = simp (product_assoc, product_left_comm, product_comm)

double : (w b a g : ℕ) → product (product (product w b) a) (product 2 g) ≡ product (product w (product 2 b)) (product a g)
double w b a g = simp (product_assoc, product_left_comm)

module _ (k i : ℕ) (x : ℕ → ℕ) (d : Points k x) (l : i < k) where
  apart : (m : ℕ) → m < k → m ≢ i → (0 < bit_xor (x i) (x m)) × (bit_xor (x i) (x m) < 256)
  apart m h e = (apart_positive (x i) (x m) (λ q. e (sym (d.different i m l h q))), xor_lt 8 (x i) (x m) (d.small i l) (d.small m h))

  over : (y : ℕ) → y < 256 → (n : ℕ) → n ≤ k → product (term x n i y) (others i (λ m. bit_xor (x i) (x m)) n) ≡ others i (λ m. bit_xor y (x m)) n
  unfolding term others
  over y small zero h = product-one 1 (omega arith)
  over y small (suc n) h = go (ℕ_discrete n i) (over y small n (omega arith))
    where
      f : ℕ → ℕ
      f m = product (bit_xor y (x m)) (inverse (bit_xor (x i) (x m)))

      g : ℕ → ℕ
      g m = bit_xor (x i) (x m)

      t : ℕ → ℕ
      t m = bit_xor y (x m)

      go : Dec (n ≡ i) → product (others i f n) (others i g n) ≡ others i t n → product (others i f (suc n)) (others i g (suc n)) ≡ others i t (suc n)
      go (yes e) ih = ap₂ product (others_own i f n e) (others_own i g n e) ∙ ih ∙ sym (others_own i t n e)
      go (no e) ih =
          let (p, s) = apart n (omega arith) e in
          let one : product (t n) (product (g n) (inverse (g n))) ≡ t n =
          ap (product (t n)) (product-inverse (g n) p s) ∙ product_comm (t n) 1 ∙ product-one (t n) (xor_lt 8 y (x n) small (d.small n (omega arith))) in
          ap₂ product (others-more i f n e) (others-more i g n e)
          ∙ regroup (others i f n) (t n) (inverse (g n)) (others i g n) (g n)
          ∙ ap₂ product ih one ∙ sym (others-more i t n e)

-- ---- the points are powers of 2

-- point i less point m
abbrev gap : (i m : ℕ) → ℕ
gap i m = bit_xor (power i) (power m)

gap_next : (i m : ℕ) → gap (suc i) (suc m) ≡ product 2 (gap i m)
unfolding power
gap_next i m = sym (product-sum_right 2 (power i) (power m))

-- all points but the first are twice those of the row before
module _ (i : ℕ) where
  step : (n b c : ℕ) → n ≢ i → others (suc i) (gap (suc i)) (suc n) ≡ product (product (gap (suc i) 0) b) (others i (gap i) n) → product 2 b ≡ c
      → others (suc i) (gap (suc i)) (suc (suc n)) ≡ product (product (gap (suc i) 0) c) (others i (gap i) (suc n))
  step n b c d e q =
      others-more (suc i) (gap (suc i)) (suc n) (λ p. omega arith) ∙ ap₂ product e (gap_next i n)
      ∙ double (gap (suc i) 0) b (others i (gap i) n) (gap i n)
      ∙ ap₂ (λ (u v : ℕ). product (product (gap (suc i) 0) u) v) q (sym (others-more i (gap i) n d))

  shifted-before : (n : ℕ) → n ≤ i → others (suc i) (gap (suc i)) (suc n) ≡ product (product (gap (suc i) 0) (power n)) (others i (gap i) n)
  unfolding others power
  shifted-before zero h =
      let g = gap (suc i) 0 in
      others-more (suc i) (gap (suc i)) 0 (λ p. omega arith) ∙ product_comm 1 g ∙ sym (product_comm (product g 1) 1 ∙ product-one (product g 1) (product_lt g 1))
  shifted-before (suc n) h = step n (power n) (power (suc n)) (λ p. omega arith) (shifted-before n (omega arith)) refl

  last : (n : ℕ) → n ≡ i → others (suc i) (gap (suc i)) (suc (suc n)) ≡ product (product (gap (suc i) 0) (power n)) (others i (gap i) (suc n))
  last n e =
      others_own (suc i) (gap (suc i)) (suc n) (ap suc e) ∙ shifted-before n (omega arith)
      ∙ ap (product (product (gap (suc i) 0) (power n))) (sym (others_own i (gap i) n e))

  shifted : (n : ℕ) → i < suc n → others (suc i) (gap (suc i)) (suc (suc n)) ≡ product (product (gap (suc i) 0) (power n)) (others i (gap i) (suc n))
  unfolding power
  shifted zero h =
      let e : 0 ≡ i = omega arith in
      last 0 e
  shifted (suc n) h = go (ℕ_discrete (suc n) i) (shifted n)
    where
      go : Dec (suc n ≡ i)
          → (i < suc n → others (suc i) (gap (suc i)) (suc (suc n)) ≡ product (product (gap (suc i) 0) (power n)) (others i (gap i) (suc n)))
          → others (suc i) (gap (suc i)) (suc (suc (suc n))) ≡ product (product (gap (suc i) 0) (power (suc n))) (others i (gap i) (suc (suc n)))
      go (yes e) ih = last (suc n) e
      go (no d) ih = step (suc n) (power n) (power (suc n)) d (ih (omega arith)) refl

-- ---- the next coefficient

pub lagrange-lt : (k i j : ℕ) → lagrange k i j < 256
unfolding lagrange term
lagrange-lt k i j = others_small i (λ m. product (bit_xor (power j) (power m)) (inverse (bit_xor (power i) (power m)))) k

module _ (n i j : ℕ) (inside : i < suc n) (past : suc (suc n) ≤ j) (small : j < 255) where
  k : ℕ
  k = suc (suc n)

  up : ℕ
  up = product (gap j i) (gap i (suc n))

  down : ℕ
  down = product (gap j (suc i)) (product (power n) (gap (suc i) 0))

  gap_positive : (a b : ℕ) → a < 255 → b < 255 → a ≢ b → 0 < gap a b
  gap_positive a b h g d = apart_positive (power a) (power b) (λ e. d (powers_differ a b h g e))

  gap_lt : (a b : ℕ) → gap a b < 256
  gap_lt a b = xor_lt 8 (power a) (power b) (power-lt a) (power-lt b)

  -- a term times its denominator and its own factor is the product over all points
  cleared : (m : ℕ) → m < k → product (product (lagrange k m j) (others m (gap m) k)) (gap j m) ≡ all (gap j) k
  unfolding k lagrange
  cleared m h =
      ap (λ (t : ℕ). product t (gap j m)) (over k m power (fewer k (omega arith) powers) h (power j) (power-lt j) k (omega arith))
      ∙ all_others m (gap j) k h

  -- so both neighbours give the same
  balanced : product (lagrange k (suc i) j) down ≡ product (lagrange k i j) up
  unfolding k up down
  balanced =
      let d = others i (gap i) (suc n) in
      let t = lagrange k i j in
      let u = lagrange k (suc i) j in
      let here : product (product t (product d (gap i (suc n)))) (gap j i) ≡ all (gap j) k =
      ap (λ (z : ℕ). product (product t z) (gap j i)) (sym (others-more i (gap i) (suc n) (λ e. omega arith))) ∙ cleared i (omega arith) in
      let there : product (product u (product (product (gap (suc i) 0) (power n)) d)) (gap j (suc i)) ≡ all (gap j) k =
      ap (λ (z : ℕ). product (product u z) (gap j (suc i))) (sym (shifted i n inside)) ∙ cleared (suc i) (omega arith) in
      cancel d (product u down) (product t up)
      (others_positive i (gap i) (suc n) (λ m h e. (gap_positive i m (omega arith) (omega arith) (λ q. e (sym q)), gap_lt i m)))
      (others_small i (gap i) (suc n)) (product_lt u down) (product_lt t up)
      (left d u (gap (suc i) 0) (power n) (gap j (suc i)) ∙ there ∙ sym here ∙ right d t (gap i (suc n)) (gap j i))
    where
      left : (d u w p g : ℕ) → product d (product u (product g (product p w))) ≡ product (product u (product (product w p) d)) g
      left d u w p g = simp (product_assoc, product_left_comm, product_comm)

      right : (d t v g : ℕ) → product (product t (product d v)) g ≡ product d (product t (product g v))
      right d t v g = simp (product_assoc, product_left_comm, product_comm)

  lagrange_next : lagrange k (suc i) j ≡ product (lagrange k i j) (product up (inverse down))
  unfolding k up down lagrange
  lagrange_next =
      let low : 0 < product (power n) (gap (suc i) 0) =
      product_positive (power n) (gap (suc i) 0) (power_positive n (omega arith)) (power-lt n)
      (gap_positive (suc i) 0 (omega arith) (omega arith) (λ e. omega arith)) (gap_lt (suc i) 0) in
      divide (lagrange k (suc i) j) (lagrange k i j) up down
      (product_positive (gap j (suc i)) (product (power n) (gap (suc i) 0))
      (gap_positive j (suc i) small (omega arith) (λ e. omega arith)) (gap_lt j (suc i)) low (product_lt (power n) (gap (suc i) 0)))
      (product_lt (gap j (suc i)) (product (power n) (gap (suc i) 0))) (lagrange-lt k (suc i) j) balanced

-- in the numbers of the code
pub next_is : (k i j : ℕ) → i + 1 < k → k ≤ j → j < 255
    → product (lagrange k i j) (product (product (bit_xor (power j) (power i)) (bit_xor (power i) (power (k - 1))))
    (inverse (product (bit_xor (power j) (power (i + 1))) (product (power (k - 2)) (bit_xor (power (i + 1)) (power 0))))))
    ≡ lagrange k (i + 1) j
unfolding k up down
next_is zero i j h g l = absurd (omega arith)
next_is (suc zero) i j h g l = absurd (omega arith)
next_is (suc (suc n)) i j h g l =
    let one : suc (suc n) - 1 ≡ suc n = omega arith in
    let two : suc (suc n) - 2 ≡ n = omega arith in
    rw (one, two, add-one) (sym (lagrange_next n i j (omega arith) g l))

-- the coefficient of source symbol 0, point by point
pub first_one : (j : ℕ) → 1 ≡ lagrange 1 0 j
unfolding lagrange term others
first_one j = refl

pub first_more : (m j c : ℕ) → 1 ≤ m → c ≡ lagrange m 0 j
    → product c (product (bit_xor (power j) (power m)) (inverse (bit_xor (power 0) (power m)))) ≡ lagrange (m + 1) 0 j
unfolding lagrange term
first_more m j c h e =
    rw (e, add-one) (sym (others-more 0 (λ m. product (bit_xor (power j) (power m)) (inverse (bit_xor (power 0) (power m)))) m (λ q. omega arith)))
