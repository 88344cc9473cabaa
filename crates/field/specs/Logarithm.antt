-- Logarithms to the base 2 in GF(2^8).
use Rattle.std.specs.Prelude.{◌≡◌, ◌<◌}
use Rattle.words.specs.Words.{ℕ}
use Rattle.field.specs.Powers.{power}

-- e is the logarithm of a
pub record IsLogarithm (a e : ℕ) : Type 0 where
  pub small : e < 255
  pub power-is : power e ≡ a
