-- Laws of rows that a list names.
use Rattle.std.specs.Prelude.{◌≡◌, ◌⊎◌, ◌%◌, ◌*◌, ◌+◌, ◌-◌, ◌/◌, ◌<◌, ◌≤◌}
use Rattle.words.specs.Words.{refl, ◌∙◌, sym, ap, arith, inl, inr, List, [], add-one, add-zero, bit_xor, dec_lt}
use Rattle.words.specs.Words.{get_or, length, length-replicate, length-set, replicate, set, suc, zero, ℕ, ⊎_elim}
use native.Mathlib.Nat.{eq-or-lt_of_le}
use lib.Seq.{get_or-set_same, get_or-set_other}
use borrow.Author.Rules.{read_below}
use Rattle.memory.specs.Part.{part}
use Rattle.rows.specs.Combination.{coefficient}
use Rattle.rows.specs.Rows.{add_scaled, scaled}
use Rattle.rows.specs.Sums.{combined, row_at}
use Rattle.rows.proofs.Combinations.{length-combined, sum_onto, combined_both}
use Rattle.rows.proofs.Sums.{add_scaled_zero, scaled-zeros, length-scaled}
use Rattle.lists.specs.Digits.{shifted, digit, pair_is}
use Rattle.lists.specs.Named.{added, Listed, list_of, IsNaming, list_added, pairs_added, ListedPairs, pair_added}
use Rattle.lists.proofs.Digits.{combined-shifted, combined_end, higher_digit, lower_digit, pair_bit, combined-none}

get_or-zeros : (n i : ℕ) → get_or {A = ℕ} (replicate n 0) i 0 ≡ 0
get_or-zeros zero i = refl
get_or-zeros (suc n) zero = refl
get_or-zeros (suc n) (suc i) = get_or-zeros n i

-- the first n elements of the list alone count
pub added_same : (row : ℕ → List ℕ) (l k : List ℕ) (n : ℕ) (d : List ℕ) → ((i : ℕ) → i < n → get_or l i 0 ≡ get_or k i 0) → added row l n d ≡ added row k n d
unfolding added
added_same row l k zero d h = refl
added_same row l k (suc n) d h = rw (h n (omega arith), added_same row l k n d (λ i g. h i (omega arith)))

added-set : (row : ℕ → List ℕ) (l : List ℕ) (i x m : ℕ) (d : List ℕ) → m ≤ i → added row (set l i x) m d ≡ added row l m d
added-set row l i x m d h = added_same row (set l i x) l m d (λ j g. get_or-set_other l i j x 0 (λ q. omega arith))

-- nothing is listed
pub listed-none : (c : ℕ → ℕ) (l : List ℕ) → Listed c 0 0 l
unfolding added combined
listed-none c l = record { few = omega arith; below = λ j h. absurd (omega arith); sums = λ row d. refl }

-- one more row
pub listed_turn : (c : ℕ → ℕ) (k n b : ℕ) (l : List ℕ) → Listed c k n l → c k ≡ b → b < 2 → n < length l → Listed c (k + 1) (n + b) (set l n k)
unfolding added combined
listed_turn c k n zero l h e t g =
    record {
      few = omega (arith, h.few);
      below = λ j q.
          let same : get_or (set l n k) j 0 ≡ get_or l j 0 = read_below ℕ l n j k 0 (get_or l j 0) (omega arith) refl in
          let old : get_or l j 0 < k = h.below j (omega arith) in
          omega (arith, same, old);
      sums = λ row d.
          rw (add-zero, add-one) (added-set row l n k n d (omega arith) ∙ h.sums row d ∙ sym (ap (λ (x : ℕ). add_scaled x (combined c row k d) (row k)) e ∙ add_scaled_zero (combined c row k d) (row k)));
    }
listed_turn c k n (suc zero) l h e t g =
    record {
      few = omega (arith, h.few);
      below = λ j q.
          ⊎_elim
          (λ f. let same : get_or (set l n k) j 0 ≡ k = ap (λ (x : ℕ). get_or (set l n k) x 0) f ∙ get_or-set_same l n k 0 g in omega (arith, same))
          (λ f.
          let same : get_or (set l n k) j 0 ≡ get_or l j 0 = read_below ℕ l n j k 0 (get_or l j 0) f refl in
          let old : get_or l j 0 < k = h.below j f in
          omega (arith, same, old))
          (let le : j ≤ n = omega arith in eq-or-lt_of_le le);
      sums = λ row d.
          rw (add-one, add-one) (
          ap (λ (x : ℕ). add_scaled 1 (added row (set l n k) n d) (row x)) (get_or-set_same l n k 0 g)
          ∙ ap (λ (x : List ℕ). add_scaled 1 x (row k)) (added-set row l n k n d (omega arith) ∙ h.sums row d)
          ∙ sym (ap (λ (x : ℕ). add_scaled x (combined c row k d) (row k)) e));
    }
listed_turn c k n (suc (suc b)) l h e t g = absurd (omega arith)

-- one more row that the list names
pub added_turn : (m : List ℕ) (a s w : ℕ) (l : List ℕ) (n : ℕ) (d₀ d r : List ℕ) → d ≡ added (row_at m a s w) l n d₀
    → r ≡ add_scaled 1 d (part (a + get_or l n 0 * s) w m) → r ≡ added (row_at m a s w) l (n + 1) d₀
unfolding added row_at
added_turn m a s w l n d₀ d r p e = rw (e, p, add-one)

-- ---- the lists of the pairs

-- the first t lists are made, and the others have no rows
pub record ListedFirst (cs : List ℕ) (lists : List (List ℕ)) (counts : List ℕ) (t : ℕ) : Type 0 where
  pub listed : (i : ℕ) → i < t → Listed (pair_is cs (i / 3 * 2) (i % 3 + 1)) (length cs) (get_or counts i 0) (list_of lists i)
  pub others : (i : ℕ) → t ≤ i → get_or counts i 0 ≡ 0
  pub all : length lists ≡ 12
  pub twelve : length counts ≡ 12

pub listed-first : (cs : List ℕ) (lists : List (List ℕ)) (counts : List ℕ) → length lists ≡ 12 → counts ≡ replicate 12 0 → ListedFirst cs lists counts 0
listed-first cs lists counts l e =
    record {
      listed = λ i h. absurd (omega arith);
      others = λ i h. ap (λ (x : List ℕ). get_or x i 0) e ∙ get_or-zeros 12 i;
      all = l;
      twelve = ap length e;
    }

-- one more list
pub listed_pair : (cs : List ℕ) (lists : List (List ℕ)) (counts new : List ℕ) (t n : ℕ) → t < 12 → ListedFirst cs lists counts t
    → Listed (pair_is cs (t / 3 * 2) (t % 3 + 1)) (length cs) n new → ListedFirst cs (set lists t new) (set counts t n) (t + 1)
listed_pair cs lists counts new t n lt old h =
    record {
      listed = λ i g. go i (let le : i ≤ t = omega arith in eq-or-lt_of_le le);
      others = λ i g. get_or-set_other counts t i n 0 (λ q. omega arith) ∙ old.others i (omega arith);
      all = length-set lists t new ∙ old.all;
      twelve = length-set counts t n ∙ old.twelve;
    }
  where
    go : (i : ℕ) → (i ≡ t) ⊎ (i < t)
        → Listed (pair_is cs (i / 3 * 2) (i % 3 + 1)) (length cs) (get_or (set counts t n) i 0) (list_of (set lists t new) i)
    go i (inl f) = rw (f, get_or-set_same counts t n 0 (omega (arith, old.twelve)), get_or-set_same lists t new [] (omega (arith, old.all))) h
    go i (inr f) =
        rw (get_or-set_other counts t i n 0 (λ q. omega arith), get_or-set_other lists t i new [] (λ q. omega arith)) (old.listed i f)

-- what is listed are rows
pub listed_naming : (cs : List ℕ) (lists : List (List ℕ)) (counts : List ℕ) (n : ℕ) → ListedPairs cs lists counts n → length cs ≤ 64
    → IsNaming lists counts (length cs)
listed_naming cs lists counts n h l =
    record { few = λ t g. few t (dec_lt t (3 * n)); below = λ t j g q. below t j q (dec_lt t (3 * n)) }
  where
    few : (t : ℕ) → Dec (t < 3 * n) → get_or counts t 0 ≤ 64
    few t (yes g) = omega (arith, (h.listed t g).few)
    few t (no g) = omega (arith, h.others t (omega arith))

    below : (t j : ℕ) → j < get_or counts t 0 → Dec (t < 3 * n) → get_or (list_of lists t) j 0 < length cs
    below t j q (yes g) = (h.listed t g).below j q
    below t j q (no g) = absurd (omega (arith, h.others t (omega arith)))

-- a pair more is added
pub pairs_turn : (row : ℕ → List ℕ) (lists : List (List ℕ)) (counts : List ℕ) (n j : ℕ) (d₀ d r : List ℕ) → d ≡ pairs_added row lists counts n j d₀
    → r ≡ pair_added row lists counts (n - 1 - j) d → r ≡ pairs_added row lists counts n (j + 1) d₀
unfolding pairs_added
pairs_turn row lists counts n j d₀ d r p e = rw (e, p, add-one)

-- from no row on, the lists of the pairs sum up to the combination
module _ (row : ℕ → List ℕ) (cs : List ℕ) (lists : List (List ℕ)) (counts : List ℕ) (m : ℕ) (long : (k : ℕ) → k < length cs → 64 ≤ length (row k))
    (pairs : ListedPairs cs lists counts m) where
  -- the rows of the list of one digit of pair p alone, added to those with both, are the rows with that digit
  digit-added : (t u e : ℕ) → t < 3 * m → u < 3 * m
      → ((k : ℕ) → bit_xor (pair_is cs (t / 3 * 2) (t % 3 + 1) k) (pair_is cs (u / 3 * 2) (u % 3 + 1) k) ≡ digit cs e k)
      → (d : List ℕ) → length d ≡ 64
      → list_added row lists counts t (add_scaled 1 d (list_added row lists counts u (replicate 64 0))) ≡ combined (digit cs e) row (length cs) d
  digit-added t u e ht hu same d l =
      let n : ℕ = length cs in
      let c : ℕ → ℕ = pair_is cs (u / 3 * 2) (u % 3 + 1) in
      (pairs.listed t ht).sums row (add_scaled 1 d (list_added row lists counts u (replicate 64 0)))
      ∙ ap (combined (pair_is cs (t / 3 * 2) (t % 3 + 1)) row n)
      (ap (add_scaled 1 d) ((pairs.listed u hu).sums row (replicate 64 0) ∙ ap (λ (x : ℕ). combined c row n (replicate x 0)) (sym l))
      ∙ sum_onto c (λ k. omega (arith, pair_bit cs (u / 3 * 2) (u % 3 + 1) k)) row n d)
      ∙ combined_both row 64 (pair_is cs (t / 3 * 2) (t % 3 + 1)) c (digit cs e) n long same d l

  pair_shifted : (p : ℕ) → p < m → (d : List ℕ) → length d ≡ 64
      → pair_added row lists counts p (combined (shifted cs (2 * p + 2)) row (length cs) d)
      ≡ combined (shifted cs (2 * p)) row (length cs) (scaled 2 (scaled 2 d))
  unfolding pair_added
  pair_shifted p h d l =
      let n : ℕ = length cs in
      let y : List ℕ = combined (shifted cs (2 * p + 2)) row n d in
      let ly : length y ≡ 64 = length-combined row (shifted cs (2 * p + 2)) n d ∙ l in
      let ls : length (scaled 2 y) ≡ 64 = length-scaled 2 y ∙ ly in
      let z : List ℕ = combined (digit cs (2 * p + 1)) row n (scaled 2 y) in
      let lz : length z ≡ 64 = length-combined row (digit cs (2 * p + 1)) n (scaled 2 y) ∙ ls in
      let both : List ℕ = list_added row lists counts (3 * p + 2) (replicate 64 0) in
      let upper : list_added row lists counts (3 * p + 1) (add_scaled 1 (scaled 2 y) both) ≡ z =
      digit-added (3 * p + 1) (3 * p + 2) (2 * p + 1) (omega arith) (omega arith) (higher_digit cs p) (scaled 2 y) ls in
      let two-more : 2 * p + 2 ≡ suc (suc (2 * p)) = omega arith in
      let next : z ≡ combined (shifted cs (suc (2 * p))) row n (scaled 2 d) =
      rw (add-one, two-more) (combined-shifted row 64 n long cs (suc (2 * p)) d l) in
      ap (λ (x : List ℕ). list_added row lists counts (3 * p) (add_scaled 1 (scaled 2 x) both)) upper
      ∙ digit-added (3 * p) (3 * p + 2) (2 * p) (omega arith) (omega arith) (lower_digit cs p) (scaled 2 z) (length-scaled 2 z ∙ lz)
      ∙ ap (λ (x : List ℕ). combined (digit cs (2 * p)) row n (scaled 2 x)) next
      ∙ combined-shifted row 64 n long cs (2 * p) (scaled 2 d) (length-scaled 2 d ∙ l)

  pairs_shifted : (j : ℕ) → j ≤ m
      → pairs_added row lists counts m j (replicate 64 0) ≡ combined (shifted cs (2 * m - 2 * j)) row (length cs) (replicate 64 0)
  unfolding pairs_added
  pairs_shifted zero g =
      let e : 2 * m ≡ 2 * m - 2 * 0 = omega arith in
      rw (sym e) (sym (combined-none row (shifted cs (2 * m)) (length cs) (replicate 64 0) pairs.above))
  pairs_shifted (suc j) g =
      let z : List ℕ = replicate 64 0 in
      let n : ℕ = length cs in
      let p : ℕ = m - 1 - j in
      let e : 2 * m - 2 * j ≡ 2 * p + 2 = omega arith in
      let f : 2 * p ≡ 2 * m - 2 * suc j = omega arith in
      ap (pair_added row lists counts p) (pairs_shifted j (omega arith) ∙ ap (λ (y : ℕ). combined (shifted cs y) row n z) e)
      ∙ pair_shifted p (omega arith) z (length-replicate {A = ℕ} 64 0)
      ∙ ap (combined (shifted cs (2 * p)) row n) (ap (scaled 2) (scaled-zeros 2 64) ∙ scaled-zeros 2 64)
      ∙ ap (λ (y : ℕ). combined (shifted cs y) row n z) f

  pub pairs_sum : pairs_added row lists counts m m (replicate 64 0) ≡ combined (coefficient cs) row (length cs) (replicate 64 0)
  pairs_sum =
      let e : 2 * m - 2 * m ≡ 0 = omega arith in
      pairs_shifted m (omega arith) ∙ ap (λ (y : ℕ). combined (shifted cs y) row (length cs) (replicate 64 0)) e
      ∙ combined_end row cs (length cs) (replicate 64 0)
