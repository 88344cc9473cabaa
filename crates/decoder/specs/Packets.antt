-- Source and repair packets as equations: a source packet has a row for each symbol, which says that its position holds it,
-- a repair packet a row for each repair symbol, which says that it is the combination with its coefficients.
use Rattle.std.specs.Prelude.{◌≡◌, ◌∷◌}
use Rattle.words.specs.Words.{ℕ, List, [], suc, zero, map}
use Rattle.decoder.specs.Field.{Ops}
use Rattle.decoder.specs.Model.{tail, Filling, Row}
use Rattle.decoder.specs.Receiver.{Packet}

module _ (O : Ops) where
  open O use {K, Sym, 𝟘, 𝟙, null, ◌⊕◌, ◌•◌}

  infixl 50 ◌⊕◌
  infixr 60 ◌•◌
  -- The combination of `n` symbols with the coefficients `c`, and the row that says that it is `s`.
  unfoldable pub combine : (n : ℕ) → (ℕ → K) → Filling O → Sym
  combine zero c x = null
  combine (suc n) c x = c 0 • x 0 ⊕ combine n (tail c) (tail x)

  unfoldable pub row : (n : ℕ) → (ℕ → K) → Sym → Row O n
  row zero c s = s
  row (suc n) c s = (c 0, row n (tail c) s)

  -- The coefficients of the `i`th symbol alone.
  unfoldable pub only : ℕ → ℕ → K
  only zero zero = 𝟙
  only zero (suc j) = 𝟘
  only (suc i) zero = 𝟘
  only (suc i) (suc j) = only i j

  -- Rows for the `m` symbols from the `i`th on.
  unfoldable pub source_rows : (n m i : ℕ) → (ℕ → Sym) → List (Row O n)
  source_rows n zero i s = []
  source_rows n (suc m) i s = row n (only i) (s i) ∷ source_rows n m (suc i) s

  -- The source packet of `n` symbols from position `p` on.
  unfoldable pub source : (first n : ℕ) → (ℕ → Sym) → Packet O
  source p n s = record { first = p; count = n; rows = source_rows n n 0 s }

  -- A repair symbol and its coefficients.
  pub record Repair : Type 0 where
    pub coefs : ℕ → K
    pub sym : Sym

  -- The repair packet over the `n` positions from `p` on.
  unfoldable pub repair : (first n : ℕ) → List Repair → Packet O
  repair p n es = record { first = p; count = n; rows = map (λ e. row n e.coefs e.sym) es }

  -- Each repair symbol is its combination of the filling.
  abbrev pub Combined : (n : ℕ) → List Repair → Filling O → Type 0
  Combined n [] x = Unit {0}
  Combined n (e ∷ es) x = (combine n e.coefs x ≡ e.sym) × Combined n es x
