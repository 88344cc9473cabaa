-- Laws of rows in buckets.
use Rattle.std.specs.Prelude.{◌≡◌, ◌%◌, ◌*◌, ◌+◌, ◌/◌, ◌<◌, ◌≤◌, ◌∷◌}
use Rattle.std.specs.List.{flat_map}
use Rattle.words.specs.Words.{refl, ◌∙◌, sym, ap, ap₂, arith, List, [], length-replicate, length-set, set, ℕ_discrete, not-suc-le-zero, le_of_suc-le-suc, take_at, get_or-append, add-one, bit_xor, ext_get_or}
use Rattle.words.specs.Words.{get_or, length, mod-lt, replicate, suc, xor_comm, zero, zero-add, ℕ, ⊎_elim}
use native.Mathlib.Nat.{eq-or-lt_of_le, div-add-mod'}
use lib.Bits.{xor_shifted}
use lib.ListN.{get_or-replicate}
use lib.Seq.{get_or-append-add, get_or-set_same, get_or-set_other, drop-append-add}
use Rattle.field.proofs.Laws.{product-one, product-sum, product-sum_right, product-zero_right}
use Rattle.field.proofs.Xor.{xor_assoc}
use Rattle.field.specs.Gf256.{product}
use Rattle.memory.proofs.Parts.{length_part, get_or-part}
use Rattle.memory.specs.Number.{Bytes}
use Rattle.memory.specs.Part.{part}
use Rattle.rows.specs.Combination.{dot, coefficient, tabulate}
use Rattle.rows.specs.Rows.{add_scaled}
use Rattle.rows.specs.Sums.{combined, row_at, rows_added}
use Rattle.rows.proofs.Combinations.{length-combined, get_or_alone, get_d_tabulate}
use Rattle.rows.proofs.Dot.{dot_same}
use Rattle.rows.proofs.Sums.{get_or_add_scaled}
use Rattle.lists.specs.Named.{ListedPairs, pairs_added}
use Rattle.lists.proofs.Named.{pairs_sum}
use Rattle.buckets.specs.Buckets.{weights, Filled, Strips}

-- ---- the weights

weight_low : (v : ℕ) → v < 16 → coefficient weights v ≡ v
unfolding weights
weight_low v h = get_or-append (tabulate (λ v. v) 16) (tabulate (λ v. v * 16) 16) 0 v h ∙ get_d_tabulate (λ v. v) 16 v h

weight_high : (v : ℕ) → v < 16 → coefficient weights (16 + v) ≡ v * 16
unfolding weights
weight_high v h = get_or-append-add (tabulate (λ v. v) 16) (tabulate (λ v. v * 16) 16) v 0 ∙ get_d_tabulate (λ v. v * 16) 16 v h

-- the weights of the halves of c sum up to c
pub weights_join : (c : ℕ) → c < 256 → bit_xor (coefficient weights (c % 16)) (coefficient weights (16 + c / 16)) ≡ c
weights_join c h =
    let low : c % 16 < 16 = mod-lt c (omega arith) in
    rw (weight_low (c % 16) low, weight_high (c / 16) (omega arith))
    (xor_comm (c % 16) (c / 16 * 16) ∙ xor_shifted (c / 16) 4 (c % 16) low ∙ div-add-mod' c 16)

-- c y = (the low half of c) y + (16 times the high half of c) y
halves : (c y : ℕ) → c < 256 → bit_xor (product (coefficient weights (c % 16)) y) (product (coefficient weights (16 + c / 16)) y) ≡ product c y
halves c y h =
    sym (product-sum (coefficient weights (c % 16)) (coefficient weights (16 + c / 16)) y) ∙ ap (λ (x : ℕ). product x y) (weights_join c h)

pub length-weights : length weights ≡ 32
unfolding weights
length-weights = refl

-- ---- one term of a sum

-- all terms are zero
pub dot-zero : (c x : ℕ → ℕ) (n : ℕ) → ((k : ℕ) → k < n → x k ≡ 0) → dot c x n ≡ 0
dot-zero c x zero h = refl
dot-zero c x (suc n) h =
    ap₂ bit_xor (dot-zero c x n (λ k g. h k (omega arith))) (ap (product (c n)) (h n (omega arith)) ∙ product-zero_right (c n))

-- y is added to x v
pub dot_change : (c x z : ℕ → ℕ) (v y n : ℕ) → v < n → z v ≡ bit_xor (x v) y → ((k : ℕ) → k < v → z k ≡ x k) → ((k : ℕ) → v < k → k < n → z k ≡ x k)
    → dot c z n ≡ bit_xor (dot c x n) (product (c v) y)
dot_change c x z v y zero h e before after = absurd (omega arith)
dot_change c x z v y (suc n) h e before after =
    ⊎_elim
    (λ f.
    ap₂ bit_xor
    (dot_same c z c x n (λ k g. refl) (λ k g. before k (omega arith)))
    (ap (λ (k : ℕ). product (c n) (z k)) (sym f) ∙ ap (product (c n)) e ∙ product-sum_right (c n) (x v) y
    ∙ ap (λ (k : ℕ). bit_xor (product (c n) (x k)) (product (c n) y)) f)
    ∙ sym (xor_assoc (dot c x n) (product (c n) (x n)) (product (c n) y))
    ∙ ap (λ (k : ℕ). bit_xor (bit_xor (dot c x n) (product (c n) (x n))) (product (c k) y)) (sym f))
    (λ f.
    let d = dot c x n in
    let p = product (c v) y in
    let q = product (c n) (x n) in
    ap₂ bit_xor (dot_change c x z v y n f e before (λ k g l. after k g (omega arith))) (ap (product (c n)) (after n f (omega arith)))
    ∙ xor_assoc d p q ∙ ap (bit_xor d) (xor_comm p q) ∙ sym (xor_assoc d q p))
    (let le : v ≤ n = omega arith in eq-or-lt_of_le le)

-- ---- the buckets

-- at first
pub strips_none : {b : List (List ℕ)} → b ≡ replicate 32 (replicate 64 0) → Strips 32 b
strips_none e =
    rw e (record { count = length-replicate {A = List ℕ} 32 (replicate 64 0); size = λ v g. ap length (get_or-replicate 32 v (replicate 64 0) [] g) ∙ length-replicate {A = ℕ} 64 0 })

-- one is replaced
pub strips_set : {n : ℕ} {b : List (List ℕ)} (v : ℕ) (x : List ℕ) → Strips n b → v < n → length x ≡ 64 → Strips n (set b v x)
strips_set {n} {b} v x h g l = record { count = length-set b v x ∙ h.count; size = λ u f. go u f (ℕ_discrete v u) }
  where
    go : (u : ℕ) → u < n → Dec (v ≡ u) → length (get_or (set b v x) u []) ≡ 64
    go u f (yes e) = rw (← e) (ap length (get_or-set_same b v x [] (omega (arith, h.count))) ∙ l)
    go u f (no e) = ap length (get_or-set_other b v u x [] (λ q. e (sym q))) ∙ h.size u f

-- a strip is added to bucket v
bucket_added : {b r : List (List ℕ)} (y : List ℕ) (v i : ℕ) → Strips 32 b → v < 32 → length y ≡ 64 → Bytes y → i < 64
    → r ≡ set b v (add_scaled 1 (get_or b v []) y)
    → dot (coefficient weights) (λ u. get_or (get_or r u []) i 0) 32
    ≡ bit_xor (dot (coefficient weights) (λ u. get_or (get_or b u []) i 0) 32) (product (coefficient weights v) (get_or y i 0))
bucket_added {b} {r} y v i lb lv ly bytes h e =
    let x : List ℕ = get_or b v [] in
    let new : List ℕ = add_scaled 1 x y in
    let byte : List ℕ → ℕ = λ l. get_or l i 0 in
    dot_change (coefficient weights) (λ u. get_or (get_or b u []) i 0) (λ u. get_or (get_or r u []) i 0) v (get_or y i 0) 32 lv
    (ap byte (ap (λ (l : List (List ℕ)). get_or l v []) e ∙ get_or-set_same b v new [] (omega (arith, lb.count)))
    ∙ get_or_add_scaled 1 x y i (omega (arith, lb.size v lv)) (omega arith)
    ∙ ap (bit_xor (get_or x i 0)) (product-one (get_or y i 0) (bytes i)))
    (λ k g. ap byte (ap (λ (l : List (List ℕ)). get_or l k []) e ∙ get_or-set_other b v k new [] (λ q. omega arith)))
    (λ k g l. ap byte (ap (λ (l : List (List ℕ)). get_or l k []) e ∙ get_or-set_other b v k new [] (λ q. omega arith)))

-- no row is in the buckets
pub filled_none : (cs m : List ℕ) (a s : ℕ) (b : List (List ℕ)) → b ≡ replicate 32 (replicate 64 0) → Filled cs 0 m a s b
filled_none cs m a s b e i h =
    dot-zero (coefficient weights) (λ v. get_or (get_or b v []) i 0) 32
    (λ k g. ap (λ (l : List (List ℕ)). get_or (get_or l k []) i 0) e
    ∙ ap (λ (l : List ℕ). get_or l i 0) (get_or-replicate 32 k (replicate 64 0) [] g) ∙ get_or-replicate 64 i 0 0 h)

-- one more row: in the bucket of its coefficient's low half, and in that of its high half
pub filled_turn : (cs m : List ℕ) (a s k : ℕ) (r : List ℕ) {b x y : List (List ℕ)} → Bytes cs → Bytes r → length r ≡ 64 → Strips 32 b → Strips 32 x
    → r ≡ row_at m a s 64 k → Filled cs k m a s b
    → x ≡ set b (coefficient cs k % 16) (add_scaled 1 (get_or b (coefficient cs k % 16) []) r)
    → y ≡ set x (16 + coefficient cs k / 16) (add_scaled 1 (get_or x (16 + coefficient cs k / 16) []) r)
    → Filled cs (k + 1) m a s y
unfolding row_at
filled_turn cs m a s k r {b} {x} {y} bc br lr lb lx row old p q i h =
    let c : ℕ = coefficient cs k in
    let z : ℕ = get_or r i 0 in
    let d : ℕ = dot (coefficient cs) (λ j. get_or m (a + j * s + i) 0) k in
    let small : c < 256 = bc k in
    let low : c % 16 < 16 = mod-lt c (omega arith) in
    let high : c / 16 < 16 = omega arith in
    let byte : z ≡ get_or m (a + k * s + i) 0 = ap (λ (l : List ℕ). get_or l i 0) row ∙ get_or-part (a + k * s) 64 i m h in
    bucket_added r (16 + c / 16) i lx (omega arith) lr br h q
    ∙ ap (λ (u : ℕ). bit_xor u (product (coefficient weights (16 + c / 16)) z))
    (bucket_added r (c % 16) i lb (omega arith) lr br h p ∙ ap (λ (u : ℕ). bit_xor u (product (coefficient weights (c % 16)) z)) (old i h))
    ∙ xor_assoc d (product (coefficient weights (c % 16)) z) (product (coefficient weights (16 + c / 16)) z)
    ∙ ap (bit_xor d) (halves c z small ∙ ap (product c) byte)
    ∙ ap (dot (coefficient cs) (λ j. get_or m (a + j * s + i) 0)) (sym (add-one k))

-- the buckets one after the other
abbrev pub flat : List (List ℕ) → List ℕ
flat b = flat_map (λ x. x) b

part-flat : (b : List (List ℕ)) (v : ℕ) → ((u : ℕ) → u < length b → length (get_or b u []) ≡ 64) → v < length b → part (v * 64) 64 (flat b) ≡ get_or b v []
unfolding part
part-flat [] v size h = absurd (not-suc-le-zero h)
part-flat (x ∷ b) zero size h = take_at x (flat b) 64 (size 0 (omega arith))
part-flat (x ∷ b) (suc v) size h =
    let e : suc v * 64 ≡ length x + v * 64 = omega (arith, size 0 (omega arith)) in
    rw (e, drop-append-add x (flat b) (v * 64)) (part-flat b v (λ u g. size (suc u) (omega arith)) (le_of_suc-le-suc h))

-- each is a row of that memory
bucket_row : {b : List (List ℕ)} (v : ℕ) → Strips 32 b → v < 32 → row_at (flat b) 0 64 64 v ≡ get_or b v []
unfolding row_at
bucket_row {b} v h g = rw zero-add (part-flat b v (λ u f. h.size u (omega (arith, h.count))) (omega (arith, h.count)))

-- the buckets sum up to the rows
pub bucket_sum : (cs m : List ℕ) (a s : ℕ) {b : List (List ℕ)} → Strips 32 b → ((k : ℕ) → k < length cs → a + k * s + 64 ≤ length m)
    → Filled cs (length cs) m a s b
    → combined (coefficient weights) (row_at (flat b) 0 64 64) 32 (replicate 64 0) ≡ combined (coefficient cs) (row_at m a s 64) (length cs) (replicate 64 0)
unfolding row_at
bucket_sum cs m a s {b} lb fits h =
    let n : ℕ = length cs in
    let z : List ℕ = replicate 64 0 in
    let row : ℕ → List ℕ = row_at (flat b) 0 64 64 in
    let long : (v : ℕ) → v < 32 → 64 ≤ length (row v) = λ v g. omega (arith, ap length (bucket_row v lb g), lb.size v g) in
    let long' : (k : ℕ) → k < n → 64 ≤ length (row_at m a s 64 k) = λ k g. omega (arith, length_part (a + k * s) 64 m (fits k g)) in
    let l : length (combined (coefficient weights) row 32 z) ≡ 64 = length-combined row (coefficient weights) 32 z in
    let l' : length (combined (coefficient cs) (row_at m a s 64) n z) ≡ 64 = length-combined (row_at m a s 64) (coefficient cs) n z in
    ext_get_or 0 (combined (coefficient weights) row 32 z) (combined (coefficient cs) (row_at m a s 64) n z) (l ∙ sym l')
    (λ i g.
    let f : i < 64 = omega arith in
    get_or_alone row 64 (coefficient weights) 32 long i f
    ∙ dot_same (coefficient weights) (λ v. get_or (row v) i 0) (coefficient weights) (λ v. get_or (get_or b v []) i 0) 32 (λ v e. refl)
    (λ v e. ap (λ (x : List ℕ). get_or x i 0) (bucket_row v lb e))
    ∙ h i f
    ∙ dot_same (coefficient cs) (λ k. get_or m (a + k * s + i) 0) (coefficient cs) (λ k. get_or (row_at m a s 64 k) i 0) n (λ k e. refl)
    (λ k e. sym (get_or-part (a + k * s) 64 i m f))
    ∙ sym (get_or_alone (row_at m a s 64) 64 (coefficient cs) n long' i f))

-- and so do the lists of the weights' pairs
pub buckets_sum : (cs m : List ℕ) (lists : List (List ℕ)) (counts : List ℕ) (n a s : ℕ) {b : List (List ℕ)} → ListedPairs weights lists counts n → Strips 32 b
    → ((k : ℕ) → k < length cs → a + k * s + 64 ≤ length m) → Filled cs (length cs) m a s b
    → pairs_added (row_at (flat b) 0 64 64) lists counts n n (replicate 64 0) ≡ rows_added cs m a s 64 (replicate 64 0)
buckets_sum cs m lists counts n a s {b} listed lb fits h =
    let row : ℕ → List ℕ = row_at (flat b) 0 64 64 in
    let lw = length-weights in
    let long : (v : ℕ) → v < length weights → 64 ≤ length (row v) =
    λ v g. let f : v < 32 = omega arith in omega (arith, ap length (bucket_row v lb f), lb.size v f) in
    pairs_sum row weights lists counts n long listed
    ∙ ap (λ (k : ℕ). combined (coefficient weights) row k (replicate 64 0)) lw
    ∙ bucket_sum cs m a s lb fits h
