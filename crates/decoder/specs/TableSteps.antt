-- Contracts of inner functions: a reader need not believe these.
-- Steps on the table by position: row operations, the loop that reduces, a new row, a row that leaves.
use Rattle.std.specs.Prelude.{◌≡◌, ◌≤◌, ◌<◌, ◌≢◌, ◌+◌ as ◌+ₙ◌}
use Rattle.words.specs.Words.{ℕ, suc, true, zero, false, Bool}
use Rattle.decoder.specs.Field.{Ops}
use Rattle.decoder.specs.Table.{Line, Table}

-- The sum of `h r` over the `r` below `n`.
unfoldable pub total : (ℕ → ℕ) → ℕ → ℕ
total h zero = 0
total h (suc n) = total h n +ₙ h n

module _ {O : Ops} where
  open O use {K, 𝟘, ◌+◌, ◌*◌, ◌⊕◌, ◌•◌}

  infixl 50 ◌+◌
  infixl 60 ◌*◌
  infixl 50 ◌⊕◌
  infixr 60 ◌•◌
  -- The row operations, on every cell: `e + k · r`, and `k · e`.
  unfoldable pub add_line : K → Line O → Line O → Line O
  add_line k r e = record { cells = λ j. e.cells j + k * r.cells j; sym = e.sym ⊕ k • r.sym }

  unfoldable pub scale_line : K → Line O → Line O
  scale_line k e = record { cells = λ j. k * e.cells j; sym = k • e.sym }

  -- `e` plus the sum of `m r · l r` over the `r` below `n`.
  unfoldable pub add_lines : (ℕ → K) → (ℕ → Line O) → ℕ → Line O → Line O
  add_lines m l zero e = e
  add_lines m l (suc n) e = add_line (m n) (l n) (add_lines m l n e)

  -- The loop that reduces an equation, position by position.
  unfoldable pub step_by : Bool → K → Line O → Line O → Line O
  step_by true k r e = add_line k r e
  step_by false k r e = e

  unfoldable pub sweep : Table O → (n q : ℕ) → Line O → Line O
  sweep T zero q e = e
  sweep T (suc n) q e = sweep T n (suc q) (step_by (T.has q) (e.cells q) (T.line q) e)

  -- The leading coefficient of a line stands at `p`, counted from `q`.
  pub record Leads (e : Line O) (q p : ℕ) : Type 0 where
    pub below : (j : ℕ) → q ≤ j → j < p → e.cells j ≡ 𝟘
    pub here : e.cells p ≢ 𝟘

  -- A new row at `p`, cleared out of every other row.
  pub record Places (T T' : Table O) (b w p : ℕ) (e : Line O) : Type 0 where
    pub has_new : T'.has p ≡ true
    pub line_new : T'.line p ≡ e
    pub has_old : (q : ℕ) → b ≤ q → q < b +ₙ w → q ≢ p → T'.has q ≡ T.has q
    pub line_old : (q : ℕ) → b ≤ q → q < b +ₙ w → q ≢ p → T.has q ≡ true
        → T'.line q ≡ add_line ((T.line q).cells p) e (T.line q)

  -- The base rises by one: its row leaves, and its column, which is zero in every other row, is that of the position that joins.
  pub record Moves (T T' : Table O) (b w : ℕ) : Type 0 where
    pub has_last : T'.has (b +ₙ w) ≡ false
    pub has_kept : (q : ℕ) → b < q → q < b +ₙ w → T'.has q ≡ T.has q
    pub line_kept : (q : ℕ) → b < q → q < b +ₙ w → T.has q ≡ true → T'.line q ≡ T.line q
    pub wraps : (q : ℕ) → (T.line q).cells (b +ₙ w) ≡ (T.line q).cells b
