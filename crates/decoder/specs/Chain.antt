-- Contracts of inner functions: a reader need not believe these.
-- Rows that join a system one after the other, in order of arrival, and what an equation becomes when they are eliminated from it in that order.
use Rattle.std.specs.Prelude.{◌≡◌, ◌<◌}
use Rattle.words.specs.Words.{ℕ, suc, zero}
use Rattle.decoder.specs.Field.{Ops}
use Rattle.decoder.specs.Model.{Row, State, Reduced, axpy, lead, at, place}

module _ (O : Ops) where
  -- The equation with the pivots of the first `k` of the rows `g` eliminated, in order.
  unfoldable pub eliminate : (n : ℕ) → (ℕ → Row O n) → ℕ → Row O n → Row O n
  eliminate n g zero e = e
  eliminate n g (suc k) e = let d = eliminate n g k e in axpy O n (at O n (g k) d) (g k) d

module _ {O : Ops} {n : ℕ} where
  open O use {𝟙}

  -- The system with the first `k` of the rows `g` placed, in order.
  unfoldable pub place_rows : (ℕ → Row O n) → ℕ → State O n → State O n
  place_rows g zero S = S
  place_rows g (suc k) S = place (place_rows g k S) (g k)

  -- The first `k` of the rows `g` can be placed: each is reduced by the system with those before it, and leads with one.
  pub record Chain (S : State O n) (g : ℕ → Row O n) (k : ℕ) : Type 0 where
    pub reduced : (j : ℕ) → j < k → Reduced (place_rows g j S) (g j)
    pub leads : (j : ℕ) → j < k → lead O n (g j) ≡ 𝟙
