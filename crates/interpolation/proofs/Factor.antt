-- What a point gives in a term of Lagrange's formula.
use Rattle.words.specs.Words.{ℕ, bit_xor}
use Rattle.field.specs.Gf256.{product}
use Rattle.field.specs.Powers.{inverse}

module _ (x : ℕ → ℕ) (i : ℕ) where
  -- what point m gives at y
  abbrev pub factor : (y m : ℕ) → ℕ
  factor y m = product (bit_xor y (x m)) (inverse (bit_xor (x i) (x m)))
