-- A memory keeps its length, and its bytes past a size.
use Rattle.std.specs.Prelude.{◌≡◌}
use Rattle.words.specs.Words.{ℕ, List, length, drop}

pub record Contained (size : ℕ) (m m' : List ℕ) : Type 0 where
  pub same : length m' ≡ length m
  pub past : drop size m' ≡ drop size m
