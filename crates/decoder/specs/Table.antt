-- The receiver's memory as a table by position: which rows there are, and the coefficient that each has at each position.
-- Row and column of a position are its remainder by the width, so all that the table says is so for every position, and no row moves.
use Rattle.std.specs.Prelude.{◌≡◌, ◌≤◌, ◌<◌, ◌+◌ as ◌+ₙ◌}
use Rattle.words.specs.Words.{ℕ, suc, true, zero, false, Bool}
use Rattle.decoder.specs.Field.{Ops}
use Rattle.decoder.specs.Model.{Row, State, end, free, pivot}

module _ (O : Ops) where
  open O use {K, Sym}

  -- What a row of memory holds: a coefficient for each position, and a symbol.
  pub record Line : Type 0 where
    pub cells : ℕ → K
    pub sym : Sym

  -- Whether each position has a row, and the row.
  pub record Table : Type 0 where
    pub has : ℕ → Bool
    pub line : ℕ → Line

module _ {O : Ops} where
  open O use {𝟘, 𝟙}

  -- The row that a line holds for the `n` positions from `q` on.
  unfoldable pub read : Line O → (n q : ℕ) → Row O n
  read e zero q = e.sym
  read e (suc n) q = (e.cells q, read e n (suc q))

  -- The system of the `n` positions from `q` on: a pivot where there is a row, else free.
  unfoldable pub slot : {n : ℕ} → Bool → Row O n → State O n → State O (suc n)
  slot true r S = pivot r S
  slot false r S = free S

  unfoldable pub view : Table O → (n q : ℕ) → State O n
  view T zero q = end
  view T (suc n) q = slot (T.has q) (read (T.line q) n (suc q)) (view T n (suc q))

  -- Each row of the window has one at its pivot, and zero at the positions of the window before that.
  pub record Echelon (T : Table O) (b n : ℕ) : Type 0 where
    pub one_at : (q : ℕ) → b ≤ q → q < b +ₙ n → T.has q ≡ true → (T.line q).cells q ≡ 𝟙
    pub zero-before : (q : ℕ) → b ≤ q → q < b +ₙ n → T.has q ≡ true → (j : ℕ) → b ≤ j → j < q → (T.line q).cells j ≡ 𝟘
