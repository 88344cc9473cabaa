-- The contract of an inner function; it need not be believed.
use Rattle.std.specs.Prelude.{◌≤◌}
use Rattle.words.specs.Words.{ℕ}
use Rattle.latency.specs.Window.{dividend}

-- what the division asks: a product of at most 64 bits, and E within its limits
pub record Bounds (budget bitrate E : ℕ) : Type 0 where
  pub dividend_most : dividend budget bitrate ≤ 100000000000000000
  pub size_least : 4 ≤ E
  pub size_most : E ≤ 1500
