-- The receiver's system of equations, in reduced row echelon form with the oldest position first:
-- a window of positions, each free or the pivot of a row over the positions after it.
use Rattle.std.specs.Prelude.{◌≡◌}
use Rattle.words.specs.Words.{ℕ, Some, suc, zero, None, Option}
use Rattle.std.proofs.Math.Logic.{ite}
use Rattle.decoder.specs.Field.{Ops}

-- Of what each position has: without the first, and with one more before it.
abbrev pub tail : {A : Type 0} → (ℕ → A) → ℕ → A
tail x i = x (suc i)

abbrev pub ext : {A : Type 0} → A → (ℕ → A) → ℕ → A
ext a x zero = a
ext a x (suc i) = x i

-- A value, if a condition holds.
abbrev pub only_if : {P A : Type 0} → Dec P → A → Option A
only_if (yes _) a = Some a
only_if (no _) a = None

module _ (O : Ops) where
  open O use {K, Sym, 𝟘, ◌+◌, ◌*◌, zero?, ◌⊕◌, ◌•◌}

  infixl 50 ◌+◌
  infixl 60 ◌*◌
  infixl 50 ◌⊕◌
  infixr 60 ◌•◌
  -- A filling gives a symbol to every position. Positions count from the window's base, or from the stream's start.
  abbrev pub Filling : Type 0
  Filling = ℕ → Sym

  -- `n` coefficients and then a symbol: a row's stretch of memory.
  abbrev pub Row : ℕ → Type 0
  Row zero = Sym
  Row (suc n) = K × Row n

  -- The value `c · x + s` at a filling `x`. As an equation a row says that it is null, which is `c · x ≡ s`.
  unfoldable pub eval : (n : ℕ) → Row n → Filling → Sym
  eval zero e x = e
  eval (suc n) e x = e.0 • x 0 ⊕ eval n e.1 (tail x)

  -- Row operations: `e + k · r`, and `k · e`.
  unfoldable pub axpy : (n : ℕ) → K → Row n → Row n → Row n
  axpy zero k r e = e ⊕ k • r
  axpy (suc n) k r e = (e.0 + k * r.0, axpy n k r.1 e.1)

  unfoldable pub scale : (n : ℕ) → K → Row n → Row n
  scale zero k e = k • e
  scale (suc n) k e = (k * e.0, scale n k e.1)

  -- The first coefficient that is not zero, or zero; the coefficient that `r` has at that place; and the symbol.
  unfoldable pub lead : (n : ℕ) → Row n → K
  lead zero e = 𝟘
  lead (suc n) e = ite (zero? e.0) (lead n e.1) e.0

  unfoldable pub at : (n : ℕ) → Row n → Row n → K
  at zero e r = 𝟘
  at (suc n) e r = ite (zero? e.0) (at n e.1 r.1) r.0

  unfoldable pub symbol : (n : ℕ) → Row n → Sym
  symbol zero e = e
  symbol (suc n) e = symbol n e.1

  -- The row with one more coefficient, a zero.
  unfoldable pub push : (n : ℕ) → Row n → Row (suc n)
  push zero e = (𝟘, e)
  push (suc n) e = (e.0, push n e.1)

  -- A system over a window of `n` positions, the oldest first. At a pivot the symbol is the row's value at the positions after it.
  pub data State : ℕ → Type 0 where
    end : State 0
    free : {n : ℕ} → State n → State (suc n)
    pivot : {n : ℕ} → Row n → State n → State (suc n)

module _ {O : Ops} where
  open O use {K, Sym, 𝟘, inv, zero?, null, null?}

  -- The filling satisfies every row.
  abbrev pub Sat : {n : ℕ} → State O n → Filling O → Type 0
  Sat end x = Unit {0}
  Sat (free S) x = Sat S (tail x)
  Sat (pivot {n} r S) x = (x 0 ≡ eval O n r (tail x)) × Sat S (tail x)

  -- The row's coefficients are zero at every pivot.
  abbrev pub Reduced : {n : ℕ} → State O n → Row O n → Type 0
  Reduced end e = Unit {0}
  Reduced (free S) e = Reduced S e.1
  Reduced (pivot r S) e = (e.0 ≡ 𝟘) × Reduced S e.1

  -- Reduced row echelon form: every row's coefficients are zero at every other pivot.
  abbrev pub Rref : {n : ℕ} → State O n → Type 0
  Rref end = Unit {0}
  Rref (free S) = Rref S
  Rref (pivot r S) = Reduced S r × Rref S

  -- The equation with every pivot eliminated.
  unfoldable pub reduce : {n : ℕ} → State O n → Row O n → Row O n
  reduce end e = e
  reduce (free S) e = (e.0, reduce S e.1)
  reduce (pivot {n} r S) e = (𝟘, reduce S (axpy O n e.0 r e.1))

  -- Store a reduced equation that leads with one as a new row, and clear its column in the older rows.
  unfoldable pub place_free : {n : ℕ} {a : K} → Dec (a ≡ 𝟘) → State O n → Row O n → State O n → State O (suc n)
  place_free (yes _) S' e S = free S'
  place_free (no _) S' e S = pivot e S

  unfoldable pub place : {n : ℕ} → State O n → Row O n → State O n
  place end e = end
  place (free S) e = place_free (zero? e.0) (place S e.1) e.1 S
  place (pivot {n} r S) e = pivot (axpy O n (at O n e.1 r) e.1 r) (place S e.1)

  -- What becomes of a reduced equation: implied where nothing is left of it, a contradiction, `none`, where only a symbol is left,
  -- else a new row, scaled to lead with one.
  unfoldable pub settle_by : {n : ℕ} {a : K} {v : Sym} → Dec (a ≡ 𝟘) → Dec (v ≡ null) → State O n → Row O n → Option (State O n)
  settle_by (yes _) (yes _) S e = Some S
  settle_by (yes _) (no _) S e = None
  settle_by {n} (no _) _ S e = Some (place S (scale O n (inv (lead O n e)) e))

  unfoldable pub settle : {n : ℕ} → State O n → Row O n → Option (State O n)
  settle {n} S e = settle_by (zero? (lead O n e)) (null? (symbol O n e)) S e

  -- Add an equation.
  unfoldable pub insert : {n : ℕ} → State O n → Row O n → Option (State O n)
  insert S e = settle S (reduce S e)

  -- The symbol at a position, where it is known: its row has no other coefficient.
  unfoldable pub known : {n : ℕ} → State O n → ℕ → Option Sym
  known end i = None
  known (free S) zero = None
  known (free S) (suc i) = known S i
  known (pivot {n} r S) zero = only_if (zero? (lead O n r)) (symbol O n r)
  known (pivot r S) (suc i) = known S i

  -- The window moves on by one position: the oldest leaves with its row, which alone can mention it, and a free one joins.
  unfoldable pub extend : {n : ℕ} → State O n → State O (suc n)
  extend end = free end
  extend (free S) = free (extend S)
  extend (pivot {n} r S) = pivot (push O n r) (extend S)

  unfoldable pub advance : {n : ℕ} → State O n → State O n
  advance end = end
  advance (free S) = extend S
  advance (pivot r S) = extend S
