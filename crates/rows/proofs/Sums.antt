-- Laws of `add_scaled` and `scaled`.
use Rattle.std.specs.Prelude.{◌≡◌, ◌<◌, ◌∷◌}
use Rattle.words.specs.Words.{refl, ◌∙◌, sym, ap, arith, List, [], bit_xor, drop, get_or, le_of_suc-le-suc, length, not-suc-le-zero}
use Rattle.words.specs.Words.{replicate, suc, take, xor_zero_r, zero, ℕ}
use lib.ListN.{length-map}
use Rattle.field.proofs.Laws.{product-zero, product-zero_right, product-one, product_assoc, product-sum_right}
use Rattle.field.proofs.Xor.{xor_assoc}
use Rattle.field.specs.Gf256.{product}
use Rattle.memory.proofs.Parts.{cons-eq}
use Rattle.memory.specs.Number.{Bytes}
use Rattle.memory.specs.Part.{part}
use Rattle.rows.specs.Rows.{add_scaled, scaled}

-- no partner, no change
pub add_scaled_none : (c : ℕ) (d : List ℕ) → add_scaled c d [] ≡ d
unfolding add_scaled
add_scaled_none c [] = refl
add_scaled_none c (x ∷ d) = refl

module _ (c : ℕ) where
  pub length_add_scaled : (d s : List ℕ) → length (add_scaled c d s) ≡ length d
  unfolding add_scaled
  length_add_scaled [] s = refl
  length_add_scaled (x ∷ d) [] = refl
  length_add_scaled (x ∷ d) (y ∷ s) = ap suc (length_add_scaled d s)

  -- element by element
  pub get_or_add_scaled : (d s : List ℕ) (i : ℕ) → i < length d → i < length s → get_or (add_scaled c d s) i 0 ≡ bit_xor (get_or d i 0) (product c (get_or s i 0))
  unfolding add_scaled
  get_or_add_scaled [] s i h k = absurd (not-suc-le-zero h)
  get_or_add_scaled (x ∷ d) [] i h k = absurd (not-suc-le-zero k)
  get_or_add_scaled (x ∷ d) (y ∷ s) zero h k = refl
  get_or_add_scaled (x ∷ d) (y ∷ s) (suc i) h k = get_or_add_scaled d s i (le_of_suc-le-suc h) (le_of_suc-le-suc k)

  pub length-scaled : (row : List ℕ) → length (scaled c row) ≡ length row
  unfolding scaled
  length-scaled row = length-map row (product c)

  pub get_or-scaled : (row : List ℕ) (i : ℕ) → i < length row → get_or (scaled c row) i 0 ≡ product c (get_or row i 0)
  unfolding scaled
  get_or-scaled [] i h = absurd (not-suc-le-zero h)
  get_or-scaled (x ∷ row) zero h = refl
  get_or-scaled (x ∷ row) (suc i) h = get_or-scaled row i (le_of_suc-le-suc h)

  -- pieces of a sum are the sums of the pieces
  take_add_scaled : (n : ℕ) (d s : List ℕ) → take n (add_scaled c d s) ≡ add_scaled c (take n d) (take n s)
  unfolding add_scaled
  take_add_scaled zero d s = refl
  take_add_scaled (suc n) [] s = refl
  take_add_scaled (suc n) (x ∷ d) [] = refl
  take_add_scaled (suc n) (x ∷ d) (y ∷ s) = cons-eq refl (take_add_scaled n d s)

  drop_add_scaled : (n : ℕ) (d s : List ℕ) → drop n (add_scaled c d s) ≡ add_scaled c (drop n d) (drop n s)
  unfolding add_scaled
  drop_add_scaled zero d s = refl
  drop_add_scaled (suc n) [] s = refl
  drop_add_scaled (suc n) (x ∷ d) [] = sym (add_scaled_none c (drop n d))
  drop_add_scaled (suc n) (x ∷ d) (y ∷ s) = drop_add_scaled n d s

  pub part_add_scaled : (a n : ℕ) (d s : List ℕ) → part a n (add_scaled c d s) ≡ add_scaled c (part a n d) (part a n s)
  unfolding part
  part_add_scaled a n d s = rw (drop_add_scaled, take_add_scaled)

-- nothing is added
pub add_scaled_zero : (d s : List ℕ) → add_scaled 0 d s ≡ d
unfolding add_scaled
add_scaled_zero [] s = refl
add_scaled_zero (x ∷ d) [] = refl
add_scaled_zero (x ∷ d) (y ∷ s) = cons-eq (ap (bit_xor x) (product-zero y) ∙ xor_zero_r x) (add_scaled_zero d s)

-- zeros are added
pub add_scaled_zeros : (c : ℕ) (d : List ℕ) → add_scaled c d (replicate (length d) 0) ≡ d
unfolding add_scaled
add_scaled_zeros c [] = refl
add_scaled_zeros c (x ∷ d) = cons-eq (ap (bit_xor x) (product-zero_right c) ∙ xor_zero_r x) (add_scaled_zeros c d)

-- a sum, added
pub add_scaled_sum : (c : ℕ) → c < 256 → (d z s : List ℕ) → length d ≡ length z → add_scaled 1 d (add_scaled c z s) ≡ add_scaled c (add_scaled 1 d z) s
unfolding add_scaled
add_scaled_sum c h [] z s e = refl
add_scaled_sum c h (x ∷ d) [] s e = absurd (omega arith)
add_scaled_sum c h (x ∷ d) (y ∷ z) [] e = refl
add_scaled_sum c h (x ∷ d) (y ∷ z) (u ∷ s) e =
    cons-eq
    (ap (bit_xor x)
    (product-sum_right 1 y (product c u)
    ∙ ap (bit_xor (product 1 y)) (sym (product_assoc 1 c u) ∙ ap (λ (k : ℕ). product k u) (product-one c h)))
    ∙ sym (xor_assoc x (product 1 y) (product c u)))
    (add_scaled_sum c h d z s (omega arith))

pub scaled-one : (row : List ℕ) → Bytes row → scaled 1 row ≡ row
unfolding scaled
scaled-one [] h = refl
scaled-one (x ∷ row) h = cons-eq (product-one x (h 0)) (scaled-one row (λ i. h (suc i)))

pub scaled-zeros : (a n : ℕ) → scaled a (replicate n 0) ≡ replicate n 0
unfolding scaled
scaled-zeros a zero = refl
scaled-zeros a (suc n) = cons-eq (product-zero_right a) (scaled-zeros a n)
