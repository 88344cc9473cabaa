-- Contracts of inner functions: a reader need not believe these. The binary digits of the elements of a list of coefficients.
use Rattle.std.specs.Prelude.{◌%◌, ◌^◌, ◌/◌}
use Rattle.words.specs.Words.{ℕ, List, cond, eqb}
use Rattle.rows.specs.Combination.{coefficient}

-- the digits of element k from e on, as a number
unfoldable pub shifted : List ℕ → (e : ℕ) → ℕ → ℕ
shifted cs e k = coefficient cs k / 2 ^ e

-- digit e of element k
unfoldable pub digit : List ℕ → (e : ℕ) → ℕ → ℕ
digit cs e k = coefficient cs k / 2 ^ e % 2

-- 1 if x is v, else 0
abbrev pub is : (x v : ℕ) → ℕ
is x v = cond (eqb x v) 1 0

-- the pair of digits of c from e on, as a number
abbrev pub pair_of : (c e : ℕ) → ℕ
pair_of c e = c / 2 ^ e % 4

-- 1 if the pair of digits of element k from e on is v, else 0
unfoldable pub pair_is : List ℕ → (e v : ℕ) → ℕ → ℕ
pair_is cs e v k = is (pair_of (coefficient cs k) e) v
