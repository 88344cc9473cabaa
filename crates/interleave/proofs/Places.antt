-- Places of a grid: every place is that of one row and one column, in the order taken and in send order.
use Rattle.std.specs.Prelude.{◌≡◌, ◌≤◌, ◌+◌, ◌<◌, ◌%◌, ◌*◌, ◌/◌, ◌⊎◌}
use Rattle.words.specs.Words.{arith, ℕ, suc, zero, mod-lt, add-zero, mod-eq_of_lt, dec_lt, ℕ_discrete, inl, inr}
use native.Mathlib.Nat.{mul-add-div_right, mul-add-mod_self_right, div-eq_of_lt, div-add-mod', div-lt_iff_lt-mul, mul_comm}
use Rattle.memory.proofs.Parts.{row_fits}
use Rattle.interleave.specs.Places.{taken_at, sent_at}
use Rattle.interleave.specs.Claims.{ByRows, ByColumns, Spread}

-- An order of a grid's symbols: the place `at r c` of each, and of each place the row and the column.
pub record Places (D L : ℕ) (at : (r c : ℕ) → ℕ) (row column : (p : ℕ) → ℕ) : Type 0 where
  pub inside : (r c : ℕ) → r < D → c < L → at r c < D * L
  pub row_of : (r c : ℕ) → r < D → c < L → row (at r c) ≡ r
  pub column_of : (r c : ℕ) → r < D → c < L → column (at r c) ≡ c
  pub row_within : (p : ℕ) → p < D * L → row p < D
  pub column_within : (p : ℕ) → p < D * L → column p < L
  pub there : (p : ℕ) → p < D * L → at (row p) (column p) ≡ p

-- ---- row by row

module _ (L r c : ℕ) (h : c < L) where
  positive : 0 < L
  positive = omega arith

  pub quotient : (r * L + c) / L ≡ r
  quotient = rw (mul-add-div_right positive r c, div-eq_of_lt h, add-zero)

  pub rest : (r * L + c) % L ≡ c
  rest = rw (mul-add-mod_self_right r L c, mod-eq_of_lt h)

-- a grid with a place has a column
some : (D L p : ℕ) → p < D * L → 0 < L
some D zero p h = absurd (omega (arith, h))
some D (suc L) p h = omega arith

pub taken_places : (D L : ℕ) → Places D L (taken_at L) (λ p. p / L) (λ p. p % L)
taken_places D L = record {
  inside = λ r c h k. omega (arith, row_fits D L r h);
  row_of = λ r c h k. quotient L r c k;
  column_of = λ r c h k. rest L r c k;
  row_within = λ p h. (div-lt_iff_lt-mul (some D L p h)).1 h;
  column_within = λ p h. mod-lt p (some D L p h);
  there = λ p h. div-add-mod' p L;
}

-- ---- column by column: row by row of the grid with rows and columns exchanged

pub sent_places : (D L : ℕ) → Places D L (sent_at D) (λ p. p % D) (λ p. p / D)
sent_places D L =
    let t = taken_places L D in
    let turned : (p : ℕ) → p < D * L → p < L * D = λ p h. rw mul_comm at h in
    record {
      inside = λ r c h k. rw (mul_comm D L) (t.inside c r k h);
      row_of = λ r c h k. t.column_of c r k h;
      column_of = λ r c h k. t.row_of c r k h;
      row_within = λ p h. t.column_within p (turned p h);
      column_within = λ p h. t.row_within p (turned p h);
      there = λ p h. t.there p (turned p h);
    }

-- ---- which comes first

pub by_rows : ByRows
by_rows L r c r' c' h h' = (first (dec_lt r r') (ℕ_discrete r r'), before)
  where
    first : Dec (r < r') → Dec (r ≡ r') → taken_at L r c < taken_at L r' c' → (r < r') ⊎ ((r ≡ r') × (c < c'))
    first (yes l) d k = inl l
    first (no l) (yes e) k = inr (e, omega (arith, rw e at k))
    first (no l) (no n) k = let g : r' < r = omega arith in absurd (omega (arith, k, row_fits r L r' g))

    before : (r < r') ⊎ ((r ≡ r') × (c < c')) → taken_at L r c < taken_at L r' c'
    before (inl l) = omega (arith, row_fits r' L r l)
    before (inr (e, k)) = rw e (omega arith)

pub by_columns : ByColumns
by_columns D r c r' c' = by_rows D c r c' r'

-- ---- at most one symbol of each row

pub spread : Spread
spread D start n r c c' h (a, b) (a', b') = go (dec_lt c c') (dec_lt c' c)
  where
    -- columns apart are D places apart
    apart : (x y : ℕ) → x < y → sent_at D r x + D ≤ sent_at D r y
    apart x y l = omega (arith, row_fits y D x l)

    go : Dec (c < c') → Dec (c' < c) → c ≡ c'
    go (yes l) k = absurd (omega (arith, apart c c' l))
    go (no l) (yes k) = absurd (omega (arith, apart c' c k))
    go (no l) (no k) = omega arith
