-- Where the receiver's memory keeps which positions a source packet has brought: in a byte for each row, past the rows.
use Rattle.std.specs.Prelude.{◌≡◌, ◌≤◌, ◌+◌, ◌<◌, ◌%◌}
use Rattle.words.specs.Words.{ℕ, List, get_or, false, Bool, ltb}
use Rattle.table.specs.Window.{row_offset}
use Rattle.history.specs.Model.{Origins}

-- Where the byte of the row r stands, and what it says.
abbrev pub origin_at : (w E r : ℕ) → ℕ
origin_at w E r = row_offset w E w + r

abbrev pub heard_in : (w E : ℕ) → List ℕ → (r : ℕ) → Bool
heard_in w E m r = ltb 0 (get_or m (origin_at w E r) 0)

-- The memory says which positions of the window from b on are heard; no later position is.
pub record Hears (w E b : ℕ) (m : List ℕ) (H : Origins) : Type 0 where
  pub window : (i : ℕ) → i < w → heard_in w E m ((b + i) % w) ≡ H (b + i)
  pub later : (i : ℕ) → w ≤ i → H (b + i) ≡ false
