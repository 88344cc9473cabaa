-- Polynomials over GF(2^8) as lists of their coefficients, that of degree 0 first.
use Rattle.std.specs.Prelude.{◌≡◌, ◌∷◌, ◌<◌}
use Rattle.words.specs.Words.{List, [], ℕ, bit_xor, length}
use Rattle.field.specs.Gf256.{product}
use Rattle.field.specs.Powers.{power}
use Rattle.memory.specs.Number.{Bytes}

-- The value at x, by Horner's rule.
unfoldable pub value : List ℕ → ℕ → ℕ
value [] x = 0
value (c ∷ p) x = bit_xor c (product x (value p x))

-- p has degree under k: k coefficients, of which the last may be 0.
pub record Under (k : ℕ) (p : List ℕ) : Type 0 where
  pub size : length p ≡ k
  pub bytes : Bytes p

-- p is a polynomial of degree under k that has s i at 2^i for every i below k.
pub record Through (k : ℕ) (s : ℕ → ℕ) (p : List ℕ) : Type 0 where
  pub under : Under k p
  pub passes : (i : ℕ) → i < k → value p (power i) ≡ s i
