-- A combination of rows, digit by digit of the coefficients: the rows whose coefficients are odd, added to twice the combination that has
-- the halves of the coefficients.
use Rattle.std.specs.Prelude.{◌≡◌, ◌%◌, ◌*◌, ◌+◌, ◌/◌, ◌<◌, ◌^◌, ◌≤◌}
use Rattle.words.specs.Words.{refl, ◌∙◌, sym, ap, ap₂, arith, Bool, List, add-one, bit_xor, cond, dec_lt, eqb}
use Rattle.words.specs.Words.{ext_get_or, false, get_or, length, mod-lt, suc, true, xor_comm, zero, ℕ}
use native.Mathlib.Nat.{pow-suc, div-div-eq-div-mul, div-eq_of_lt, div-one}
use lib.ListN.{get_or-eq_default}
use Rattle.field.proofs.Laws.{product-sum_right}
use Rattle.field.proofs.Xor.{xor_assoc}
use Rattle.field.specs.Gf256.{product}
use Rattle.memory.specs.Number.{Bytes}
use Rattle.rows.specs.Combination.{dot, coefficient}
use Rattle.rows.specs.Rows.{scaled}
use Rattle.rows.specs.Sums.{combined}
use Rattle.rows.proofs.Combinations.{length-combined, get_or-combined}
use Rattle.rows.proofs.Dot.{dot-halves}
use Rattle.rows.proofs.Sums.{length-scaled, get_or-scaled, add_scaled_zero}
use Rattle.lists.specs.Digits.{shifted, digit, is, pair_is, pair_of}

-- no row is added
pub combined-none : (row : ℕ → List ℕ) (c : ℕ → ℕ) (n : ℕ) (d : List ℕ) → ((k : ℕ) → c k ≡ 0) → combined c row n d ≡ d
unfolding combined
combined-none row c zero d z = refl
combined-none row c (suc n) d z = rw (z n, add_scaled_zero) (combined-none row c n d z)

module _ (row : ℕ → List ℕ) (l n : ℕ) (long : (k : ℕ) → k < n → l ≤ length (row k)) where
  -- by the last digits and the halves of the coefficients
  combined-digit : (c : ℕ → ℕ) (d : List ℕ) → length d ≡ l
      → combined (λ k. c k % 2) row n (scaled 2 (combined (λ k. c k / 2) row n d)) ≡ combined c row n (scaled 2 d)
  combined-digit c d e =
      let half : List ℕ = combined (λ k. c k / 2) row n d in
      let lh : length half ≡ l = length-combined row (λ k. c k / 2) n d ∙ e in
      let ls : length (scaled 2 half) ≡ l = length-scaled 2 half ∙ lh in
      let ld : length (scaled 2 d) ≡ l = length-scaled 2 d ∙ e in
      let ll : length (combined (λ k. c k % 2) row n (scaled 2 half)) ≡ l = length-combined row (λ k. c k % 2) n (scaled 2 half) ∙ ls in
      let lr : length (combined c row n (scaled 2 d)) ≡ l = length-combined row c n (scaled 2 d) ∙ ld in
      ext_get_or 0 (combined (λ k. c k % 2) row n (scaled 2 half)) (combined c row n (scaled 2 d)) (ll ∙ sym lr)
      (λ i h.
      let g : i < l = omega arith in
      let x : ℕ → ℕ = λ k. get_or (row k) i 0 in
      let y : ℕ = get_or d i 0 in
      let odd : ℕ = dot (λ k. c k % 2) x n in
      let half-dot : ℕ = dot (λ k. c k / 2) x n in
      get_or-combined row l (λ k. c k % 2) n long (scaled 2 half) ls i g
      ∙ ap (λ (z : ℕ). bit_xor z odd)
      (get_or-scaled 2 half i (omega arith) ∙ ap (product 2) (get_or-combined row l (λ k. c k / 2) n long d e i g) ∙ product-sum_right 2 y half-dot)
      ∙ xor_assoc (product 2 y) (product 2 half-dot) odd
      ∙ ap₂ bit_xor (sym (get_or-scaled 2 d i (omega arith))) (xor_comm (product 2 half-dot) odd ∙ dot-halves c x n)
      ∙ sym (get_or-combined row l c n long (scaled 2 d) ld i g))

  -- digit e of the coefficients
  pub combined-shifted : (cs : List ℕ) (e : ℕ) (d : List ℕ) → length d ≡ l
      → combined (digit cs e) row n (scaled 2 (combined (shifted cs (suc e)) row n d)) ≡ combined (shifted cs e) row n (scaled 2 d)
  unfolding digit shifted
  combined-shifted cs e d q =
      ap (λ (f : ℕ → ℕ). combined (digit cs e) row n (scaled 2 (combined f row n d)))
      (λ i k. (ap (λ (x : ℕ). coefficient cs k / x) (pow-suc 2 e) ∙ sym (div-div-eq-div-mul (coefficient cs k) (2 ^ e) 2)) i)
      ∙ combined-digit (shifted cs e) d q

-- all digits have been added
pub combined_end : (row : ℕ → List ℕ) (cs : List ℕ) (n : ℕ) (d : List ℕ) → combined (shifted cs 0) row n d ≡ combined (coefficient cs) row n d
unfolding shifted
combined_end row cs n d = ap (λ (f : ℕ → ℕ). combined f row n d) (λ i k. div-one (coefficient cs k) i)

-- ---- pairs of digits

-- all digits of a byte are in four pairs, and those of a number below 4 in one
pub above_four : (cs : List ℕ) → Bytes cs → (k : ℕ) → shifted cs (2 * 4) k ≡ 0
unfolding shifted
above_four cs h k = div-eq_of_lt (h k)

pub above_one : (cs : List ℕ) → ((k : ℕ) → k < length cs → get_or cs k 0 < 4) → (k : ℕ) → shifted cs (2 * 1) k ≡ 0
unfolding shifted
above_one cs h k = go (dec_lt k (length cs))
  where
    go : Dec (k < length cs) → coefficient cs k / 2 ^ (2 * 1) ≡ 0
    go (yes l) = div-eq_of_lt (h k l)
    go (no l) = ap (λ (x : ℕ). x / 2 ^ (2 * 1)) (get_or-eq_default cs 0 (omega arith))

-- none or one
pub pair_bit : (cs : List ℕ) (e v k : ℕ) → pair_is cs e v k < 2
unfolding pair_is
pair_bit cs e v k = go (eqb (pair_of (coefficient cs k) e) v)
  where
    go : (b : Bool) → cond b 1 0 < 2
    go true = omega arith
    go false = omega arith

-- 2 and 3 have the higher digit, 1 and 3 the lower
higher_of : (x : ℕ) → x < 4 → bit_xor (is x 2) (is x 3) ≡ x / 2
higher_of zero h = refl
higher_of (suc zero) h = refl
higher_of (suc (suc zero)) h = refl
higher_of (suc (suc (suc zero))) h = refl
higher_of (suc (suc (suc (suc x)))) h = absurd (omega arith)

lower_of : (x : ℕ) → x < 4 → bit_xor (is x 1) (is x 3) ≡ x % 2
lower_of zero h = refl
lower_of (suc zero) h = refl
lower_of (suc (suc zero)) h = refl
lower_of (suc (suc (suc zero))) h = refl
lower_of (suc (suc (suc (suc x)))) h = absurd (omega arith)

pub higher_digit : (cs : List ℕ) (p k : ℕ)
    → bit_xor (pair_is cs ((3 * p + 1) / 3 * 2) ((3 * p + 1) % 3 + 1) k) (pair_is cs ((3 * p + 2) / 3 * 2) ((3 * p + 2) % 3 + 1) k) ≡ digit cs (2 * p + 1) k
unfolding pair_is digit
higher_digit cs p k =
    let a : (3 * p + 1) / 3 * 2 ≡ 2 * p = omega arith in
    let b : (3 * p + 1) % 3 + 1 ≡ 2 = omega arith in
    let c : (3 * p + 2) / 3 * 2 ≡ 2 * p = omega arith in
    let d : (3 * p + 2) % 3 + 1 ≡ 3 = omega arith in
    let q = coefficient cs k / 2 ^ (2 * p) in
    let e : q % 4 / 2 ≡ q / 2 % 2 = omega arith in
    let next : coefficient cs k / 2 ^ (2 * p + 1) ≡ q / 2 =
    ap (λ (x : ℕ). coefficient cs k / 2 ^ x) (add-one (2 * p)) ∙ ap (λ (x : ℕ). coefficient cs k / x) (pow-suc 2 (2 * p)) ∙ sym (div-div-eq-div-mul (coefficient cs k) (2 ^ (2 * p)) 2) in
    rw (a, b, c, d) (higher_of (q % 4) (mod-lt q (omega arith)) ∙ e ∙ ap (λ (x : ℕ). x % 2) (sym next))

pub lower_digit : (cs : List ℕ) (p k : ℕ)
    → bit_xor (pair_is cs (3 * p / 3 * 2) (3 * p % 3 + 1) k) (pair_is cs ((3 * p + 2) / 3 * 2) ((3 * p + 2) % 3 + 1) k) ≡ digit cs (2 * p) k
unfolding pair_is digit
lower_digit cs p k =
    let a : 3 * p / 3 * 2 ≡ 2 * p = omega arith in
    let b : 3 * p % 3 + 1 ≡ 1 = omega arith in
    let c : (3 * p + 2) / 3 * 2 ≡ 2 * p = omega arith in
    let d : (3 * p + 2) % 3 + 1 ≡ 3 = omega arith in
    let q = coefficient cs k / 2 ^ (2 * p) in
    let e : q % 4 % 2 ≡ q % 2 = omega arith in
    rw (a, b, c, d) (lower_of (q % 4) (mod-lt q (omega arith)) ∙ e)
