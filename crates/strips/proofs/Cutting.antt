-- Laws of a sum that is cut into strips.
use Rattle.std.specs.Prelude.{◌≡◌, ◌++◌, ◌+◌, ◌-◌, ◌<◌, ◌≤◌}
use Rattle.words.specs.Words.{◌∙◌, sym, ap, ap₂, arith, List, ext_get_or, length, length-replicate, replicate, zero-add, ℕ}
use lib.ListN.{get_or-replicate}
use Rattle.memory.proofs.Parts.{part_none, part-add, part-past, part-splice, splice-part, splice_next, length_part, length-splice, get_or-part, whole}
use Rattle.memory.specs.Number.{Bytes}
use Rattle.memory.specs.Part.{part, splice}
use Rattle.rows.specs.Combination.{coefficient}
use Rattle.rows.specs.Rows.{add_scaled}
use Rattle.rows.specs.Sums.{combined, row_at, rows_added}
use Rattle.rows.proofs.Combinations.{length-combined, part-combined, sum_onto}

-- the first `at` bytes are those of the result
abbrev pub done : (r d : List ℕ) (at : ℕ) → List ℕ
done r d at = splice 0 (part 0 at r) d

pub done_none : (r d : List ℕ) → done r d 0 ≡ d
done_none r d = ap (λ (x : List ℕ). splice 0 x d) (part_none 0 r ∙ sym (part_none 0 d)) ∙ splice-part 0 0 d (omega arith)

-- a strip more
pub done_more : (r d : List ℕ) (at w : ℕ) → at + w ≤ length r → splice at (part at w r) (done r d at) ≡ done r d (at + w)
done_more r d at w h =
    let l : length (part 0 at r) ≡ at = length_part 0 at r (omega arith) in
    ap (λ (x : ℕ). splice x (part at w r) (done r d at)) (sym l) ∙ ap (λ (x : ℕ). splice x (part at w r) (done r d at)) (sym (zero-add (length (part 0 at r)))) ∙ splice_next 0 (part 0 at r) (part at w r) d (omega arith)
    ∙ ap (λ (x : List ℕ). splice 0 x d) (ap (λ (x : ℕ). part 0 at r ++ part x w r) (sym (zero-add at)) ∙ sym (part-add 0 at w r))

-- what comes after is as it was
pub done_rest : (r d : List ℕ) (at w : ℕ) → at ≤ length r → part at w (done r d at) ≡ part at w d
done_rest r d at w h =
    let l : length (part 0 at r) ≡ at = length_part 0 at r (omega arith) in
    part-past at w 0 (part 0 at r) d (omega arith) (omega arith)

pub done_all : (r d : List ℕ) (n : ℕ) → length r ≡ n → length d ≡ n → done r d n ≡ r
done_all r d n e f =
    let l : length (splice 0 r d) ≡ n = length-splice 0 r d (omega arith) ∙ f in
    ap (λ (x : List ℕ). splice 0 x d) (whole n r e) ∙ sym (whole n (splice 0 r d) l) ∙ ap (λ (x : ℕ). part 0 x (splice 0 r d)) (sym e) ∙ part-splice 0 r d (omega arith)

part-zeros : (a n : ℕ) → part a n (replicate (a + n) 0) ≡ replicate n 0
part-zeros a n =
    let l : length (part a n (replicate (a + n) 0)) ≡ n = length_part a n (replicate (a + n) 0) (omega (arith, length-replicate {A = ℕ} (a + n) 0)) in
    ext_get_or 0 (part a n (replicate (a + n) 0)) (replicate n 0) (l ∙ sym (length-replicate n 0))
    (λ i h.
    let g : i < n = omega arith in
    get_or-part a n i (replicate (a + n) 0) g ∙ get_or-replicate (a + n) (a + i) 0 0 (omega arith) ∙ sym (get_or-replicate n i 0 0 g))

-- a sum from zeros, added to a strip
pub sum_over : (cs m : List ℕ) (a s : ℕ) (d : List ℕ) {p y : List ℕ} → Bytes cs → length d ≡ 64 → y ≡ add_scaled 1 d p → p ≡ rows_added cs m a s 64 (replicate 64 0)
    → y ≡ rows_added cs m a s 64 d
sum_over cs m a s d bytes size e f =
    let zeros : combined (coefficient cs) (row_at m a s 64) (length cs) (replicate 64 0) ≡ combined (coefficient cs) (row_at m a s 64) (length cs) (replicate (length d) 0) =
    ap (λ (n : ℕ). combined (coefficient cs) (row_at m a s 64) (length cs) (replicate n 0)) (sym size) in
    e ∙ ap (add_scaled 1 d) (f ∙ zeros) ∙ sum_onto (coefficient cs) bytes (row_at m a s 64) (length cs) d

-- a whole strip more
pub strip_whole : (cs m : List ℕ) (a s : ℕ) (d x y : List ℕ) (at : ℕ) → at + 64 ≤ length d
    → x ≡ done (rows_added cs m a s (length d) d) d at → y ≡ rows_added cs m (a + at) s 64 (part at 64 x)
    → splice at y x ≡ done (rows_added cs m a s (length d) d) d (at + 64)
strip_whole cs m a s d x y at h p e =
    let n : ℕ = length cs in
    let c : ℕ → ℕ = coefficient cs in
    let r : List ℕ = rows_added cs m a s (length d) d in
    let lr : length r ≡ length d = length-combined (row_at m a s (length d)) c n d in
    let old : part at 64 x ≡ part at 64 d = ap (part at 64) p ∙ done_rest r d at 64 (omega arith) in
    let z : y ≡ part at 64 r =
    e ∙ ap (combined c (row_at m (a + at) s 64) n) old ∙ part-combined c m a s (length d) at 64 n d h in
    rw (z, p) (done_more r d at 64 (omega arith))

-- the last v bytes of a strip that starts at b
pub strip_rest : (cs m : List ℕ) (a s : ℕ) (d x y : List ℕ) (at b v : ℕ) → Bytes cs → v ≤ 64 → b + (64 - v) ≡ a + at → at + v ≤ length d
    → x ≡ done (rows_added cs m a s (length d) d) d at
    → y ≡ add_scaled 1 (part at v x) (part (64 - v) v (rows_added cs m b s 64 (replicate 64 0)))
    → splice at y x ≡ done (rows_added cs m a s (length d) d) d (at + v)
strip_rest cs m a s d x y at b v bytes few place h p e =
    let n : ℕ = length cs in
    let c : ℕ → ℕ = coefficient cs in
    let r : List ℕ = rows_added cs m a s (length d) d in
    let lr : length r ≡ length d = length-combined (row_at m a s (length d)) c n d in
    let skip : ℕ = 64 - v in
    let all : 64 ≡ skip + v = omega arith in
    let stretch = part-combined c m b s 64 skip v n (replicate 64 0) (omega arith) in
    let old : part at v x ≡ part at v d = ap (part at v) p ∙ done_rest r d at v (omega arith) in
    let lv : length (part at v d) ≡ v = length_part at v d h in
    let z : y ≡ part at v r =
    e
    ∙ ap₂ (add_scaled 1) old
    (sym stretch
    ∙ ap₂ (λ (i : ℕ) (l : List ℕ). combined c (row_at m i s v) n l) place
    (ap (λ (i : ℕ). part skip v (replicate i 0)) all ∙ part-zeros skip v ∙ ap (λ (i : ℕ). replicate i 0) (sym lv)))
    ∙ sum_onto c bytes (row_at m (a + at) s v) n (part at v d)
    ∙ part-combined c m a s (length d) at v n d h in
    rw (z, p) (done_more r d at v (omega arith))
