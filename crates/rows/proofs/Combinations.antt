-- Laws of `combined` and `combination`.
use Rattle.std.specs.Prelude.{◌≡◌, ◌*◌, ◌+◌, ◌-◌, ◌<◌, ◌≤◌}
use Rattle.words.specs.Words.{refl, ◌∙◌, sym, ap, arith, List, [], add-one, add-suc, add-zero, bit_xor, ext_get_or, get_or}
use Rattle.words.specs.Words.{le_of_suc-le-suc, length, length-replicate, not-suc-le-zero, replicate, suc, xor_comm, xor_zero_r, zero, ℕ}
use native.Mathlib.Nat.{add-mul}
use lib.ListN.{get_or-replicate}
use Rattle.field.proofs.Xor.{xor_assoc}
use Rattle.field.specs.Gf256.{product}
use Rattle.memory.proofs.Parts.{row_fits, length_part, get_or-part, part-part}
use Rattle.memory.specs.Part.{part}
use Rattle.rows.specs.Combination.{dot, coefficient, tabulate, combination}
use Rattle.rows.specs.Rows.{add_scaled}
use Rattle.rows.specs.Sums.{combined, row_at, rows_added}
use Rattle.rows.proofs.Dot.{dot_both}
use Rattle.rows.proofs.Sums.{length_add_scaled, get_or_add_scaled, add_scaled_zeros, part_add_scaled, add_scaled_sum}

pub length-combined : (row : ℕ → List ℕ) (c : ℕ → ℕ) (n : ℕ) (d : List ℕ) → length (combined c row n d) ≡ length d
unfolding combined
length-combined row c zero d = refl
length-combined row c (suc n) d = length_add_scaled (c n) (combined c row n d) (row n) ∙ length-combined row c n d

-- one more row of a memory: a turn of a loop that adds them in order
pub row-added : (c : ℕ → ℕ) (m : List ℕ) (a s k : ℕ) (d₀ d r : List ℕ) → d ≡ combined c (row_at m a s (length d₀)) k d₀ → length d ≡ length d₀
    → r ≡ add_scaled (c k) d (row_at m a s (length d) k) → r ≡ combined c (row_at m a s (length d₀)) (k + 1) d₀
unfolding combined
row-added c m a s k d₀ d r p q e = rw (e, q, p, add-one)

-- element by element
pub get_or-combined : (row : ℕ → List ℕ) (l : ℕ) (c : ℕ → ℕ) (n : ℕ) → ((k : ℕ) → k < n → l ≤ length (row k)) → (d : List ℕ) → length d ≡ l
    → (i : ℕ) → i < l → get_or (combined c row n d) i 0 ≡ bit_xor (get_or d i 0) (dot c (λ k. get_or (row k) i 0) n)
unfolding combined
get_or-combined row l c zero long d e i h = sym (xor_zero_r (get_or d i 0))
get_or-combined row l c (suc n) long d e i h =
    get_or_add_scaled (c n) (combined c row n d) (row n) i (omega (arith, length-combined row c n d)) (omega (arith, long n (omega arith)))
    ∙ ap (λ (x : ℕ). bit_xor x (product (c n) (get_or (row n) i 0))) (get_or-combined row l c n (λ k g. long k (omega arith)) d e i h)
    ∙ xor_assoc (get_or d i 0) (dot c (λ k. get_or (row k) i 0) n) (product (c n) (get_or (row n) i 0))

pub get_or_alone : (row : ℕ → List ℕ) (l : ℕ) (c : ℕ → ℕ) (n : ℕ) → ((k : ℕ) → k < n → l ≤ length (row k)) → (i : ℕ) → i < l
    → get_or (combined c row n (replicate l 0)) i 0 ≡ dot c (λ k. get_or (row k) i 0) n
get_or_alone row l c n long i h =
    get_or-combined row l c n long (replicate l 0) (length-replicate l 0) i h
    ∙ ap (λ (z : ℕ). bit_xor z (dot c (λ k. get_or (row k) i 0) n)) (get_or-replicate l i 0 0 h)

-- the rows of a memory that has room for them
pub long-rows : (m : List ℕ) (a s l n : ℕ) → l ≤ s → a + n * s ≤ length m → (k : ℕ) → k < n → l ≤ length (row_at m a s l k)
unfolding row_at
long-rows m a s l n h g k lt = let f = row_fits n s k lt in omega (arith, length_part (a + k * s) l m (omega arith))

-- the rows added twice, with two lists of coefficients
pub combined_both : (row : ℕ → List ℕ) (l : ℕ) (c d f : ℕ → ℕ) (n : ℕ) → ((k : ℕ) → k < n → l ≤ length (row k)) → ((k : ℕ) → bit_xor (c k) (d k) ≡ f k)
    → (z : List ℕ) → length z ≡ l → combined c row n (combined d row n z) ≡ combined f row n z
combined_both row l c d f n long e z h =
    let y : List ℕ = combined d row n z in
    let ly : length y ≡ l = length-combined row d n z ∙ h in
    let lc : length (combined c row n y) ≡ l = length-combined row c n y ∙ ly in
    ext_get_or 0 (combined c row n y) (combined f row n z) (lc ∙ sym (length-combined row f n z ∙ h))
    (λ i g.
    let g : i < l = omega arith in
    let x : ℕ → ℕ = λ k. get_or (row k) i 0 in
    get_or-combined row l c n long y ly i g ∙ ap (λ (u : ℕ). bit_xor u (dot c x n)) (get_or-combined row l d n long z h i g)
    ∙ xor_assoc (get_or z i 0) (dot d x n) (dot c x n)
    ∙ ap (bit_xor (get_or z i 0)) (xor_comm (dot d x n) (dot c x n) ∙ dot_both c d f x n e)
    ∙ sym (get_or-combined row l f n long z h i g))

-- a stretch of the sum is the sum of the stretches
pub part-combined : (c : ℕ → ℕ) (m : List ℕ) (a s w at v n : ℕ) (d : List ℕ) → at + v ≤ w
    → combined c (row_at m (a + at) s v) n (part at v d) ≡ part at v (combined c (row_at m a s w) n d)
unfolding combined row_at
part-combined c m a s w at v zero d h = refl
part-combined c m a s w at v (suc n) d h =
    let e : a + at + n * s ≡ a + n * s + at = omega arith in
    ap (λ (x : List ℕ). add_scaled (c n) x (part (a + at + n * s) v m)) (part-combined c m a s w at v n d h)
    ∙ ap (λ (x : List ℕ). add_scaled (c n) (part at v (combined c (row_at m a s w) n d)) x)
    (ap (λ (x : ℕ). part x v m) e ∙ sym (part-part (a + n * s) w at v m h))
    ∙ sym (part_add_scaled (c n) at v (combined c (row_at m a s w) n d) (part (a + n * s) w m))

-- a sum that was made from nothing, added
pub sum_onto : (c : ℕ → ℕ) → ((k : ℕ) → c k < 256) → (row : ℕ → List ℕ) (n : ℕ) (d : List ℕ)
    → add_scaled 1 d (combined c row n (replicate (length d) 0)) ≡ combined c row n d
unfolding combined
sum_onto c h row zero d = add_scaled_zeros 1 d
sum_onto c h row (suc n) d =
    let z : List ℕ = replicate (length d) 0 in
    let l : length d ≡ length (combined c row n z) = sym (length-combined row c n z ∙ length-replicate (length d) 0) in
    add_scaled_sum (c n) (h n) d (combined c row n z) (row n) l ∙ ap (λ (x : List ℕ). add_scaled (c n) x (row n)) (sum_onto c h row n d)

-- the first k rows, and the n that follow
combined-append : (c : ℕ → ℕ) (row : ℕ → List ℕ) (k n : ℕ) (d : List ℕ)
    → combined c row (k + n) d ≡ combined (λ j. c (k + j)) (λ j. row (k + j)) n (combined c row k d)
unfolding combined
combined-append c row k zero d = ap (λ (x : ℕ). combined c row x d) (add-zero k)
combined-append c row k (suc n) d =
    ap (λ (x : ℕ). combined c row x d) (add-suc k n) ∙ ap (λ (x : List ℕ). add_scaled (c (k + n)) x (row (k + n))) (combined-append c row k n d)

combined_same : (c e : ℕ → ℕ) (row other : ℕ → List ℕ) (n : ℕ) (d : List ℕ) → ((k : ℕ) → k < n → c k ≡ e k) → ((k : ℕ) → row k ≡ other k)
    → combined c row n d ≡ combined e other n d
unfolding combined
combined_same c e row other zero d p q = refl
combined_same c e row other (suc n) d p q =
    rw (p n (omega arith), q n, combined_same c e row other n d (λ k h. p k (omega arith)) q)

-- the rows of a block fit
pub block_fits : (rows s k n : ℕ) → k + n ≤ rows → k * s + n * s ≤ rows * s
block_fits rows s k n h =
    let m = rows - (k + n) in
    let e : k + n + m ≡ rows = omega arith in
    omega (arith, add-mul k n s, add-mul (k + n) m s, ap (λ (x : ℕ). x * s) e)

-- n more rows of a memory: a turn of a loop that adds them by blocks
pub block-added : (cs m : List ℕ) (a s k n : ℕ) (d₀ d r : List ℕ) → k + n ≤ length cs
    → d ≡ combined (coefficient cs) (row_at m a s (length d₀)) k d₀ → length d ≡ length d₀ → r ≡ rows_added (part k n cs) m (a + k * s) s (length d) d
    → r ≡ combined (coefficient cs) (row_at m a s (length d₀)) (k + n) d₀
unfolding row_at
block-added cs m a s k n d₀ d r h p q e =
    let l : length (part k n cs) ≡ n = length_part k n cs h in
    let c : ℕ → ℕ = coefficient cs in
    let row : ℕ → List ℕ = row_at m a s (length d₀) in
    let place : (j : ℕ) → a + k * s + j * s ≡ a + (k + j) * s = λ j. omega (arith, add-mul k j s) in
    e ∙ rw (l, q, p)
    (combined_same (coefficient (part k n cs)) (λ j. c (k + j)) (row_at m (a + k * s) s (length d₀)) (λ j. row (k + j)) n (combined c row k d₀)
    (λ j g. get_or-part k n j cs g) (λ j. ap (λ (x : ℕ). part x (length d₀) m) (place j))
    ∙ sym (combined-append c row k n d₀))

-- ---- the combination of a list of symbols

pub length-tabulate : (f : ℕ → ℕ) (n : ℕ) → length (tabulate f n) ≡ n
length-tabulate f zero = refl
length-tabulate f (suc n) = ap suc (length-tabulate (λ i. f (suc i)) n)

pub get_d_tabulate : (f : ℕ → ℕ) (n i : ℕ) → i < n → get_or (tabulate f n) i 0 ≡ f i
get_d_tabulate f zero i h = absurd (not-suc-le-zero h)
get_d_tabulate f (suc n) zero h = refl
get_d_tabulate f (suc n) (suc i) h = get_d_tabulate (λ j. f (suc j)) n i (le_of_suc-le-suc h)

pub length-combination : (size : ℕ) (cs : List ℕ) (xs : List (List ℕ)) → length (combination size cs xs) ≡ size
unfolding combination
length-combination size cs xs = length-tabulate (λ i. dot (coefficient cs) (λ k. get_or (get_or xs k []) i 0) (length xs)) size

pub get_or-combination : (size : ℕ) (cs : List ℕ) (xs : List (List ℕ)) (i : ℕ) → i < size
    → get_or (combination size cs xs) i 0 ≡ dot (coefficient cs) (λ k. get_or (get_or xs k []) i 0) (length xs)
unfolding combination
get_or-combination size cs xs = get_d_tabulate (λ i. dot (coefficient cs) (λ k. get_or (get_or xs k []) i 0) (length xs)) size

-- rows added to zero are the combination of the symbols xs if they have the same sum at each byte, in whatever order they stand
pub combined_sums : (size : ℕ) (row : ℕ → List ℕ) (c : ℕ → ℕ) (n : ℕ) → ((k : ℕ) → k < n → size ≤ length (row k))
    → (cs : List ℕ) (xs : List (List ℕ))
    → ((i : ℕ) → i < size → dot c (λ k. get_or (row k) i 0) n ≡ dot (coefficient cs) (λ k. get_or (get_or xs k []) i 0) (length xs))
    → combined c row n (replicate size 0) ≡ combination size cs xs
combined_sums size row c n long cs xs same =
    let z : List ℕ = replicate size 0 in
    let l : length (combined c row n z) ≡ size = length-combined row c n z ∙ length-replicate size 0 in
    ext_get_or 0 (combined c row n z) (combination size cs xs) (l ∙ sym (length-combination size cs xs))
    (λ i h.
    let g : i < size = omega arith in
    get_or_alone row size c n long i g ∙ same i g ∙ sym (get_or-combination size cs xs i g))
