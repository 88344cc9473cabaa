-- The sum of pairs from zeros on, added to zeros, is as it was.
use Rattle.std.specs.Prelude.{◌≡◌, ◌*◌, ◌+◌, ◌-◌, ◌∷◌}
use Rattle.std.specs.Int.Bits.{xor_zero_l}
use Rattle.words.specs.Words.{refl, ◌∙◌, sym, ap, arith, List, [], length, length-replicate, replicate, suc, zero, ℕ}
use Rattle.field.proofs.Laws.{product_lt, product-one}
use Rattle.field.specs.Gf256.{product}
use Rattle.memory.proofs.Parts.{cons-eq}
use Rattle.rows.specs.Rows.{add_scaled, scaled}
use Rattle.rows.proofs.Sums.{add_scaled_sum, add_scaled_zeros, length-scaled, length_add_scaled}
use Rattle.lists.specs.Named.{added, digit_added, pair_added, pairs_added}

-- 64 elements that, added to zeros, are as they were
pub record FromZeros (s : List ℕ) : Type 0 where
  pub size : length s ≡ 64
  pub same : add_scaled 1 (replicate 64 0) s ≡ s

zeros : FromZeros (replicate 64 0)
zeros =
    let l : length (replicate {A = ℕ} 64 0) ≡ 64 = length-replicate {A = ℕ} 64 0 in
    record { size = l; same = ap (λ (n : ℕ). add_scaled 1 (replicate 64 0) (replicate n 0)) (sym l) ∙ add_scaled_zeros 1 (replicate 64 0) }

-- one row more
one_more : {d : List ℕ} → FromZeros d → (r : List ℕ) → FromZeros (add_scaled 1 d r)
one_more {d} h r =
    record {
      size = length_add_scaled 1 d r ∙ h.size;
      same = add_scaled_sum 1 (omega arith) (replicate 64 0) d r (length-replicate {A = ℕ} 64 0 ∙ sym h.size) ∙ ap (λ (x : List ℕ). add_scaled 1 x r) h.same;
    }

multiples : (c : ℕ) (d : List ℕ) → add_scaled 1 (replicate (length d) 0) (scaled c d) ≡ scaled c d
unfolding add_scaled scaled
multiples c [] = refl
multiples c (x ∷ d) = cons-eq (xor_zero_l (product 1 (product c x)) ∙ product-one (product c x) (product_lt c x)) (multiples c d)

doubled : {d : List ℕ} → FromZeros d → FromZeros (scaled 2 d)
doubled {d} h =
    record { size = length-scaled 2 d ∙ h.size; same = ap (λ (n : ℕ). add_scaled 1 (replicate n 0) (scaled 2 d)) (sym h.size) ∙ multiples 2 d }

module _ (row : ℕ → List ℕ) where
  rows_more : (l : List ℕ) (n : ℕ) {d : List ℕ} → FromZeros d → FromZeros (added row l n d)
  unfolding added
  rows_more l zero h = h
  rows_more l (suc n) h = one_more (rows_more l n h) _

  digit_more : (lists : List (List ℕ)) (counts : List ℕ) (t : ℕ) (both : List ℕ) {d : List ℕ} → FromZeros d → FromZeros (digit_added row lists counts t both d)
  digit_more lists counts t both h = rows_more _ _ (one_more (doubled h) both)

  pair_more : (lists : List (List ℕ)) (counts : List ℕ) (p : ℕ) {d : List ℕ} → FromZeros d → FromZeros (pair_added row lists counts p d)
  unfolding pair_added
  pair_more lists counts p h = digit_more lists counts (3 * p) _ (digit_more lists counts (3 * p + 1) _ h)

  pub pairs_from_zeros : (lists : List (List ℕ)) (counts : List ℕ) (n j : ℕ) → FromZeros (pairs_added row lists counts n j (replicate 64 0))
  unfolding pairs_added
  pairs_from_zeros lists counts n zero = zeros
  pairs_from_zeros lists counts n (suc j) = pair_more lists counts (n - 1 - j) (pairs_from_zeros lists counts n j)
