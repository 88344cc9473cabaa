-- The two tables of GF(2^8), as their rules give them.
use Rattle.std.specs.Prelude.{◌∷◌}
use Rattle.words.specs.Words.{ℕ, List, [], suc, true, zero, false, eqb}
use Rattle.field.specs.Gf256.{product}

-- The n powers from x on: each entry doubles the one before.
unfoldable pub doublings : ℕ → ℕ → List ℕ
unfolding product
doublings zero x = []
doublings (suc n) x = x ∷ doublings n (product 2 x)

-- The powers of 2 with exponents 0 to 254.
abbrev pub power_table : List ℕ
power_table = doublings 255 1

-- Where x stands in a list.
unfoldable pub index_of : ℕ → List ℕ → ℕ
index_of x [] = 0
index_of x (y ∷ ys) = elim (eqb x y) [ true ↦ 0 | false ↦ suc (index_of x ys) ]

-- Where each of the n numbers from x on stands in a list.
unfoldable pub indices : List ℕ → ℕ → ℕ → List ℕ
unfolding index_of
indices ps zero x = []
indices ps (suc n) x = index_of x ps ∷ indices ps n (suc x)

-- The logarithms of 1 to 255.
unfoldable pub logarithm_table : List ℕ
unfolding doublings indices
logarithm_table = indices power_table 255 1
