-- The contracts of inner functions; they need not be believed.
use Rattle.std.specs.Prelude.{◌≡◌, ◌≤◌, ◌*◌}
use Rattle.words.specs.Words.{ℕ}

-- a grid within its limits, all of it given, with room for it
pub record Fits (E D L given room : ℕ) : Type 0 where
  pub size_most : E ≤ 1500
  pub rows_least : 1 ≤ D
  pub rows_most : D ≤ 255
  pub columns_least : 1 ≤ L
  pub columns_most : L ≤ 255
  pub whole : given ≡ D * L * E
  pub fits : given ≤ room
