-- Marks that are set, dropped and moved on.
-- One mark: written, written-only, added. The first are dropped: dropped_none, dropped_more, dropped_to.
-- The window moves on: moved_none, moved-far, moved_near.
use Rattle.std.specs.Prelude.{◌≡◌, ◌≤◌, ◌+◌, ◌<◌, ◌-◌, ◌%◌, ◌≢◌, ◌&&◌, ◌||◌}
use Rattle.words.specs.Words.{arith, ℕ, List, length, refl, ◌∙◌, sym, ap, get_or, false, subst, ltb, leb, mod-lt, le-leb}
use Rattle.words.specs.Words.{ℕ_discrete, add-zero, dec_lt, lt-leb, ne_eqb, mod-eq_of_lt, mod-add-mod, eq-eqb, set, length-set, add_assoc, add-mod_right}
use native.Mathlib.Nat.{add-mod-mod}
use lib.Seq.{get_or-set_same, get_or-set_other}
use Rattle.starts.specs.Starts.{Starts, also, moved}
use Rattle.marks.specs.Marks.{mark_at, marked, Marks, OnlyMarks}
use Rattle.marks.specs.MarkSteps.{mark_byte, Written, Dropped}
use Rattle.marks.specs.Promises.{MarkSet, MarksMoved}
use Rattle.marks.proofs.Only.{mark_row, mark_past, mark_apart, no_mark, only_refl, only_trans}

-- ---- one mark

pub written : (w E oldest i v at : ℕ) (m : List ℕ) → at ≡ mark_at w E oldest i → at < length m → Written w E oldest i v m (set m at v)
written w E oldest i v at m e l = record {
  size = length-set m at v;
  here = ap (λ k. get_or (set m at v) k 0) (sym e) ∙ get_or-set_same m at v 0 l;
  rest = λ k n. get_or-set_other m at k v 0 (λ q. n (q ∙ e));
}

pub written-only : {w E oldest i v : ℕ} {m m' : List ℕ} → 0 < w → Written w E oldest i v m m' → OnlyMarks w E m m'
written-only {w} {E} {oldest} {i} pos f = record { size = f.size; others = λ k n. f.rest k (no_mark w E oldest i k pos n) }

other_mark : (w E oldest i v j : ℕ) (m m' : List ℕ) → Written w E oldest i v m m' → i ≤ w → j ≤ w → j ≢ i
    → mark_byte w E oldest m' j ≡ mark_byte w E oldest m j
other_mark w E oldest i v j m m' f h k n = f.rest (mark_at w E oldest j) (mark_apart w E oldest j i k h n)

-- The i-th position is marked as well.
set_marks : (w E oldest i : ℕ) (m m' : List ℕ) (M : Starts) → i ≤ w → Written w E oldest i 1 m m' → Marks w E oldest m M → Marks w E oldest m' (also i M)
set_marks w E oldest i m m' M l f h j k = go (ℕ_discrete j i)
  where
    go : Dec (j ≡ i) → marked w E oldest m' j ≡ also i M j
    go (yes e) = ap (λ x. marked w E oldest m' x) e ∙ ap (ltb 0) f.here ∙ sym (ap (λ t. t || M j) (eq-eqb j i e))
    go (no n) = ap (ltb 0) (other_mark w E oldest i 1 j m m' f l k n) ∙ h j k ∙ sym (ap (λ t. t || M j) (ne_eqb j i n))

pub added : (w E oldest i : ℕ) (m m' : List ℕ) → 0 < w → i ≤ w → Written w E oldest i 1 m m' → MarkSet w E oldest i m m'
added w E oldest i m m' pos l f = record { only = written-only pos f; marks = λ M h. set_marks w E oldest i m m' M l f h }

-- ---- the first marks are dropped

pub dropped_none : (w E oldest : ℕ) (m : List ℕ) → Dropped w E oldest 0 m m
dropped_none w E oldest m = record { only = only_refl; gone = λ i l. absurd (omega arith); rest = λ i h l. refl }

pub dropped_more : (w E oldest i : ℕ) (m m₁ m₂ : List ℕ) → 0 < w → i ≤ w → Dropped w E oldest i m m₁ → Written w E oldest i 0 m₁ m₂
    → Dropped w E oldest (i + 1) m m₂
dropped_more w E oldest i m m₁ m₂ pos l f g = record {
  only = only_trans f.only (written-only pos g);
  gone = λ j k. go j k (ℕ_discrete j i);
  rest = λ j h k. other_mark w E oldest i 0 j m₁ m₂ g l k (λ e. omega (arith, e)) ∙ f.rest j (omega arith) k;
}
  where
    go : (j : ℕ) → j < i + 1 → Dec (j ≡ i) → mark_byte w E oldest m₂ j ≡ 0
    go j k (yes e) = ap (λ x. mark_byte w E oldest m₂ x) e ∙ g.here
    go j k (no n) = other_mark w E oldest i 0 j m₁ m₂ g l (omega arith) n ∙ f.gone j (omega arith)

pub dropped_to : {w E oldest i n : ℕ} {m m' : List ℕ} → i ≡ n → Dropped w E oldest i m m' → Dropped w E oldest n m m'
dropped_to {w} {E} {oldest} {i} {n} {m} {m'} e f = subst (λ x. Dropped w E oldest x m m') e f

-- Where all marks are dropped, none is left, wherever the base is.
none_left : (w E oldest : ℕ) (m m' : List ℕ) → oldest < w → Dropped w E oldest (w + 1) m m' → (b i : ℕ) → marked w E b m' i ≡ false
none_left w E oldest m m' near f b i = go (dec_lt i w)
  where
    pos : 0 < w
    pos = omega arith

    go : Dec (i < w) → marked w E b m' i ≡ false
    go (yes a) =
        let r = (b + i) % w in
        let j = (r + w - oldest) % w in
        let l : j < w = mod-lt (r + w - oldest) pos in
        let k : oldest + (r + w - oldest) ≡ r + w = omega arith in
        let e : r ≡ (oldest + j) % w =
        sym (add-mod-mod oldest (r + w - oldest) w ∙ ap (λ x. x % w) k ∙ add-mod_right r w ∙ mod-eq_of_lt (mod-lt (b + i) pos)) in
        ap (λ x. ltb 0 (get_or m' x 0)) (sym (mark_row w E b i r a refl) ∙ mark_row w E oldest j r l e) ∙ ap (ltb 0) (f.gone j (omega arith))
    go (no a) =
        ap (λ x. ltb 0 (get_or m' x 0)) (sym (mark_past w E b i (omega arith)) ∙ mark_past w E oldest w (omega arith)) ∙ ap (ltb 0) (f.gone w (omega arith))

-- ---- the window moves on

pub moved_none : (w E oldest rise : ℕ) (m : List ℕ) → oldest < w → rise ≡ 0 → MarksMoved w E oldest rise m m
moved_none w E oldest rise m h e = record {
  only = only_refl;
  marks = λ M f i l.
      let s : (oldest + rise) % w ≡ oldest = ap (λ k. (oldest + k) % w) e ∙ ap (λ k. k % w) (add-zero oldest) ∙ mod-eq_of_lt h in
      let k : rise + i ≡ i = omega arith in
      ap (λ x. marked w E x m i) s ∙ f i l ∙ sym (ap (λ x. leb x w && M x) k ∙ ap (λ t. t && M i) (le-leb i w l));
}

-- The mark of a position after the base has risen stands where that of the position j did, in the same row.
turned : (w E oldest rise i j : ℕ) → i < w → j < w → (oldest + j) % w ≡ (oldest + rise + i) % w → mark_at w E ((oldest + rise) % w) i ≡ mark_at w E oldest j
turned w E oldest rise i j h l e =
    sym (mark_row w E ((oldest + rise) % w) i ((oldest + rise + i) % w) h (sym (mod-add-mod (oldest + rise) w i)))
    ∙ mark_row w E oldest j ((oldest + rise + i) % w) l (sym e)

-- The base has risen by more than the width.
pub moved-far : (w E oldest rise : ℕ) (m m' : List ℕ) → oldest < w → w < rise → Dropped w E oldest (w + 1) m m' → MarksMoved w E oldest rise m m'
moved-far w E oldest rise m m' near g f = record {
  only = f.only;
  marks = λ M h i l.
      none_left w E oldest m m' near f ((oldest + rise) % w) i ∙ sym (ap (λ t. t && M (rise + i)) (lt-leb (rise + i) w (omega arith)));
}

-- By no more: the mark of the position just past the window comes into the row of the old base.
module _ (w E oldest rise past : ℕ) (m m₁ m₂ m₃ : List ℕ) (pos : 0 < rise) (near : rise ≤ w) (was : past ≡ get_or m 10 0)
    (f : Dropped w E oldest rise m m₁) (g : Written w E oldest w 0 m₁ m₂) (h : Written w E oldest 0 past m₂ m₃) where
  -- The old marks after it, by the old base.
  at_zero : mark_byte w E oldest m₃ 0 ≡ mark_byte w E oldest m w
  at_zero = h.here ∙ was ∙ ap (λ x. get_or m x 0) (mark_past w E oldest w (omega arith))

  at_past : mark_byte w E oldest m₃ w ≡ 0
  at_past = other_mark w E oldest 0 past w m₂ m₃ h (omega arith) (omega arith) (λ e. omega (arith, e)) ∙ g.here

  at_low : (j : ℕ) → 0 < j → j < rise → mark_byte w E oldest m₃ j ≡ 0
  at_low j a b =
      other_mark w E oldest 0 past j m₂ m₃ h (omega arith) (omega arith) (λ e. omega (arith, e))
      ∙ other_mark w E oldest w 0 j m₁ m₂ g (omega arith) (omega arith) (λ e. omega (arith, e)) ∙ f.gone j b

  at_high : (j : ℕ) → rise ≤ j → j < w → mark_byte w E oldest m₃ j ≡ mark_byte w E oldest m j
  at_high j a b =
      other_mark w E oldest 0 past j m₂ m₃ h (omega arith) (omega arith) (λ e. omega (arith, e))
      ∙ other_mark w E oldest w 0 j m₁ m₂ g (omega arith) (omega arith) (λ e. omega (arith, e)) ∙ f.rest j a (omega arith)

  module _ (M : Starts) (k : Marks w E oldest m M) (i : ℕ) where
    stays : rise + i ≤ w → M (rise + i) ≡ moved w rise M i
    stays l = sym (ap (λ t. t && M (rise + i)) (le-leb (rise + i) w l))

    leaves : w < rise + i → false ≡ moved w rise M i
    leaves l = sym (ap (λ t. t && M (rise + i)) (lt-leb (rise + i) w l))

    wrapped : (j : ℕ) → i < w → j + w ≡ rise + i → Dec (j ≡ 0) → marked w E ((oldest + rise) % w) m₃ i ≡ moved w rise M i
    wrapped j a e d = ap (λ x. ltb 0 (get_or m₃ x 0)) (turned w E oldest rise i j a (omega arith) row) ∙ go d
      where
        row : (oldest + j) % w ≡ (oldest + rise + i) % w
        row = let s : oldest + j + w ≡ oldest + rise + i = omega arith in sym (add-mod_right (oldest + j) w) ∙ ap (λ x. x % w) s

        go : Dec (j ≡ 0) → marked w E oldest m₃ j ≡ moved w rise M i
        go (yes z) =
            let s : w ≡ rise + i = omega arith in
            ap (λ x. marked w E oldest m₃ x) z ∙ ap (ltb 0) at_zero ∙ k w (omega arith) ∙ ap M s ∙ stays (omega arith)
        go (no z) = ap (ltb 0) (at_low j (omega arith) (omega arith)) ∙ leaves (omega arith)

    moves : i ≤ w → Dec (i < w) → Dec (rise + i < w) → marked w E ((oldest + rise) % w) m₃ i ≡ moved w rise M i
    moves l (no a) d =
        ap (λ x. ltb 0 (get_or m₃ x 0)) (sym (mark_past w E ((oldest + rise) % w) i (omega arith)) ∙ mark_past w E oldest w (omega arith))
        ∙ ap (ltb 0) at_past ∙ leaves (omega arith)
    moves l (yes a) (yes b) =
        ap (λ x. ltb 0 (get_or m₃ x 0)) (turned w E oldest rise i (rise + i) a b (ap (λ x. x % w) (sym (add_assoc oldest rise i))))
        ∙ ap (ltb 0) (at_high (rise + i) (omega arith) b) ∙ k (rise + i) (omega arith) ∙ stays (omega arith)
    moves l (yes a) (no b) = wrapped (rise + i - w) a (omega arith) (ℕ_discrete (rise + i - w) 0)

  pub moved_near : MarksMoved w E oldest rise m m₃
  moved_near = record {
    only = only_trans f.only (only_trans (written-only (omega arith) g) (written-only (omega arith) h));
    marks = λ M k i l. moves M k i l (dec_lt i w) (dec_lt (rise + i) w);
  }
