-- Powers of 2 and inverses in GF(2^8).
use Rattle.words.specs.Words.{ℕ, suc, true, zero, false, eqb}
use Rattle.field.specs.Gf256.{product}

-- The powers of 2, which is the polynomial x.
unfoldable pub power : ℕ → ℕ
power zero = 1
power (suc n) = product 2 (power n)

-- The number below n whose product with a is 1, or 0 if there is none.
unfoldable pub inverse_below : ℕ → ℕ → ℕ
inverse_below zero a = 0
inverse_below (suc n) a = elim (eqb (product a n) 1) [ true ↦ n | false ↦ inverse_below n a ]

-- The inverse in GF(2^8), and 0 for 0.
unfoldable pub inverse : ℕ → ℕ
inverse = inverse_below 256
