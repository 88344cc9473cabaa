-- The coefficient of source symbol i in symbol j of a block of k source symbols, by Lagrange's formula.
use Rattle.words.specs.Words.{true, false, List, ℕ, zero, suc, bit_xor, eqb}
use Rattle.field.specs.Gf256.{product}
use Rattle.field.specs.Powers.{inverse, power}
use Rattle.rows.specs.Combination.{dot, tabulate}

-- The product of the g m over the m below n other than i.
unfoldable pub others : (i : ℕ) (g : ℕ → ℕ) (n : ℕ) → ℕ
others i g zero = 1
others i g (suc n) = elim (eqb n i) [ true ↦ others i g n | false ↦ product (others i g n) (g n) ]

-- The term of point i at y, of the n points x 0, .. x (n - 1): the product over the other points of (y - x m) / (x i - x m).
-- It is 1 at x i, and 0 at the others.
unfoldable pub term : (x : ℕ → ℕ) (n i y : ℕ) → ℕ
unfolding others
term x n i y = others i (λ m. product (bit_xor y (x m)) (inverse (bit_xor (x i) (x m)))) n

-- The points of the standard are the powers of 2.
unfoldable pub lagrange : (k i j : ℕ) → ℕ
unfolding term
lagrange k i j = term power k i (power j)

-- The coefficients of symbol j, of the k source symbols in order.
unfoldable pub lagranges : (k j : ℕ) → List ℕ
lagranges k j = tabulate (λ i. lagrange k i j) k

-- Byte b of symbol j, where s i is byte b of source symbol i.
unfoldable pub encoded : (k : ℕ) (s : ℕ → ℕ) (j : ℕ) → ℕ
encoded k s j = dot (λ i. lagrange k i j) s k
