-- A number that is not other than zero.
use Rattle.std.specs.Prelude.{◌≡◌, ◌≢◌}
use Rattle.words.specs.Words.{ℕ, ℕ_discrete}

pub else_zero : (a : ℕ) → (a ≢ 0 → ⊥) → a ≡ 0
else_zero a h = go (ℕ_discrete a 0)
  where
    go : Dec (a ≡ 0) → a ≡ 0
    go (yes z) = z
    go (no z) = absurd (h z)
