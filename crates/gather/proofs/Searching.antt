-- The search for a pivot, row by row and in a row from a column on.
use Rattle.std.specs.Prelude.{◌≡◌, ◌≤◌, ◌+◌, ◌<◌, ◌%◌, ◌≢◌}
use Rattle.words.specs.Words.{arith, ℕ, List, refl, ◌∙◌, sym, ap, get_or, subst, mod-lt, ℕ_discrete}
use Rattle.memory.proofs.Parts.{get_or-part}
use Rattle.table.specs.Window.{stride, row_offset, row}
use Rattle.table.specs.RowSteps.{ZeroFrom}
use Rattle.table.proofs.Offsets.{flags_fit}
use Rattle.gather.specs.GatherSteps.{Leading}

-- No coefficient in the first `i` columns of a row.
abbrev pub Blank : (w first i : ℕ) → List ℕ → Type 0
Blank w first i l = (j : ℕ) → j < i → get_or l ((first + j) % w) 0 ≡ 0

-- No coefficient in the rows from `from` on and before `r`.
abbrev pub BlankRows : (w E first from r : ℕ) → List ℕ → Type 0
BlankRows w E first from r m = (k : ℕ) → from ≤ k → k < r → Leading w first w (row w E k m)

pub blank_none : (w first : ℕ) (l : List ℕ) → Blank w first 0 l
blank_none w first l j h = absurd (omega arith)

pub blank_more : (w first i : ℕ) (l : List ℕ) → Blank w first i l → get_or l ((first + i) % w) 0 ≡ 0 → Blank w first (i + 1) l
blank_more w first i l f z j h = go (ℕ_discrete j i)
  where
    go : Dec (j ≡ i) → get_or l ((first + j) % w) 0 ≡ 0
    go (yes e) = ap (λ k. get_or l ((first + k) % w) 0) e ∙ z
    go (no e) = f j (omega arith)

pub blank_all : (w first i : ℕ) (l : List ℕ) → i ≡ w → Blank w first i l → Leading w first w l
blank_all w first i l e f = record { within = omega arith; before = λ j h. f j (omega arith); here = λ h. absurd (omega arith) }

pub rows_none : (w E first from r : ℕ) (m : List ℕ) → r ≡ from → BlankRows w E first from r m
rows_none w E first from r m e k g l = absurd (omega arith)

pub rows_more : (w E first from r : ℕ) (m : List ℕ) → BlankRows w E first from r m → Leading w first w (row w E r m) → BlankRows w E first from (r + 1) m
rows_more w E first from r m f z k g l = go (ℕ_discrete k r)
  where
    go : Dec (k ≡ r) → Leading w first w (row w E k m)
    go (yes e) = subst (λ x. Leading w first w (row w E x m)) (sym e) z
    go (no e) = f k g (omega arith)

-- The code reads the row from `at` on.
pub read_cell : (w E r at c : ℕ) (m : List ℕ) → at ≡ row_offset w E r → c < w → get_or m (at + c) 0 ≡ get_or (row w E r m) c 0
read_cell w E r at c m here h = ap (λ a. get_or m (a + c) 0) here ∙ sym (get_or-part (row_offset w E r) (stride w E) c m (omega (arith, flags_fit w E)))

-- The first coefficient.
pub leading_here : (w first i c : ℕ) (l : List ℕ) → i < w → c ≡ (first + i) % w → get_or l c 0 ≢ 0 → Blank w first i l → Leading w first i l
leading_here w first i c l h e z f = record { within = omega arith; before = f; here = λ _ y. z (ap (λ k. get_or l k 0) e ∙ y) }

-- No coefficient at all.
pub leading_none : (w E first r at : ℕ) (m : List ℕ) → at ≡ row_offset w E r → 0 < w → ZeroFrom at (at + w) m → Leading w first w (row w E r m)
leading_none w E first r at m here pos z =
    blank_all w first w (row w E r m) refl
    (λ j h.
    let l = mod-lt (first + j) {m = w} pos in
    sym (read_cell w E r at ((first + j) % w) m here l) ∙ z (at + (first + j) % w) (omega arith) (omega arith))
