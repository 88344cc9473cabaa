-- Whether a row has no coefficient but its own: the others or-ed are zero. Its flag says so.
use Rattle.std.specs.Prelude.{◌≡◌, ◌≤◌, ◌+◌, ◌<◌, ◌-◌, ◌≢◌, ◌↔◌}
use Rattle.words.specs.Words.{arith, ℕ, List, refl, ◌∙◌, sym, ap, get_or, subst, ap₂, ℕ_discrete, dec_lt, eqb, eqb-true}
use lib.Bits.{bit_or, or_add_and, and_le_l, and_le_r}
use Rattle.memory.proofs.Parts.{get_or-part}
use Rattle.table.specs.Window.{stride, row_offset, row, Alone}
use Rattle.table.specs.RowSteps.{ZeroFrom, Tested}
use Rattle.table.proofs.Offsets.{flags_fit}

-- Two numbers or-ed are zero just where both are.
or-zero : (a b : ℕ) → bit_or a b ≡ 0 → (a ≡ 0) × (b ≡ 0)
or-zero a b e = (omega (arith, or_add_and a b, and_le_r a b), omega (arith, or_add_and a b, and_le_l a b))

both_zero : (a b : ℕ) → a ≡ 0 → b ≡ 0 → bit_or a b ≡ 0
both_zero a b x y = ap₂ bit_or x y

pub or-none : (a : ℕ) (l : List ℕ) → (◌≡◌ {A = ℕ} 0 0) ↔ ZeroFrom a (a + 0) l
or-none a l = (λ _ i g h. absurd (omega arith), λ _. refl)

pub or-more : (a i x : ℕ) (l : List ℕ) (b : ℕ) → b ≡ get_or l (a + i) 0
    → (x ≡ 0) ↔ ZeroFrom a (a + i) l → (bit_or x b ≡ 0) ↔ ZeroFrom a (a + (i + 1)) l
or-more a i x l b e f = (
  (λ z j g h. go j g h (ℕ_discrete j (a + i)) (or-zero x b z)),
  λ z. both_zero x b (f.1 (λ j g h. z j g (omega arith))) (e ∙ z (a + i) (omega arith) (omega arith)),
)
  where
    go : (j : ℕ) → a ≤ j → j < a + (i + 1) → Dec (j ≡ a + i) → (x ≡ 0) × (b ≡ 0) → get_or l j 0 ≡ 0
    go j g h (yes y) z = ap (λ k. get_or l k 0) y ∙ sym e ∙ z.1
    go j g h (no y) z = f.0 z.0 j g (omega arith)

pub or_done : (a i z x : ℕ) (l : List ℕ) → i ≡ z → (x ≡ 0) ↔ ZeroFrom a i l → (x ≡ 0) ↔ ZeroFrom a z l
or_done a i z x l e f = subst (λ k. (x ≡ 0) ↔ ZeroFrom a k l) e f

-- The code reads the row `r` from `at` on: `x` is the coefficients before its own or-ed, `y` those after.
module _ (w E r : ℕ) (m : List ℕ) (h : r < w) (at : ℕ) (here : at ≡ row_offset w E r) where
  cell : (j : ℕ) → j < w → get_or (row w E r m) j 0 ≡ get_or m (at + j) 0
  cell j l = get_or-part (row_offset w E r) (stride w E) j m (omega (arith, flags_fit w E)) ∙ ap (λ a. get_or m (a + j) 0) (sym here)

  module _ (x y : ℕ) (f : (x ≡ 0) ↔ ZeroFrom at (at + r) m) (g : (y ≡ 0) ↔ ZeroFrom (at + (r + 1)) (at + w) m) where
    pub tested : Tested w E r (eqb (bit_or x y) 0) m
    tested = (
      (λ e j l d. cell j l ∙ go j l d (dec_lt j r) (or-zero x y (eqb-true (bit_or x y) 0 e))),
      λ a.
          let before = f.1 (λ i c d. at_zero i c (omega arith) (omega arith) a) in
          let after = g.1 (λ i c d. at_zero i (omega arith) (omega arith) (omega arith) a) in
          ap (λ k. eqb k 0) (both_zero x y before after),
    )
      where
        go : (j : ℕ) → j < w → j ≢ r → Dec (j < r) → (x ≡ 0) × (y ≡ 0) → get_or m (at + j) 0 ≡ 0
        go j l d (yes k) z = f.0 z.0 (at + j) (omega arith) (omega arith)
        go j l d (no k) z = g.0 z.1 (at + j) (omega arith) (omega arith)

        at_zero : (i : ℕ) → at ≤ i → i < at + w → i ≢ at + r → Alone w r (row w E r m) → get_or m i 0 ≡ 0
        at_zero i c d n a =
            let e : at + (i - at) ≡ i = omega arith in
            ap (λ k. get_or m k 0) (sym e) ∙ sym (cell (i - at) (omega arith)) ∙ a (i - at) (omega arith) (omega arith)
