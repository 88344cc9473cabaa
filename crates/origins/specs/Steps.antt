-- Contracts of inner functions: a reader need not believe these.
use Rattle.std.specs.Prelude.{◌≡◌, ◌≤◌, ◌+◌, ◌<◌, ◌-◌, ◌%◌, ◌⊎◌}
use Rattle.words.specs.Words.{ℕ, List, length, get_or}
use Rattle.table.specs.Window.{row_offset}
use Rattle.history.specs.Model.{Origins, bringing}
use Rattle.origins.specs.Origins.{origin_at, Hears}

-- Nothing but the bytes of origins has changed.
pub record OnlyOrigins (w E : ℕ) (m m' : List ℕ) : Type 0 where
  pub size : length m' ≡ length m
  pub before : (k : ℕ) → k < row_offset w E w → get_or m' k 0 ≡ get_or m k 0
  pub past : (k : ℕ) → row_offset w E w + w ≤ k → get_or m' k 0 ≡ get_or m k 0

-- The byte of the i-th position from that of the row `oldest` on.
abbrev pub origin_byte : (w E oldest : ℕ) → List ℕ → ℕ → ℕ
origin_byte w E oldest m i = get_or m (origin_at w E ((oldest + i) % w)) 0

-- The bytes of the n positions from the `first` on are `v`, and those of the others are as they were.
pub record Filled (w E oldest first n v : ℕ) (m m' : List ℕ) : Type 0 where
  pub only : OnlyOrigins w E m m'
  pub here : (i : ℕ) → first ≤ i → i < first + n → origin_byte w E oldest m' i ≡ v
  pub rest : (i : ℕ) → i < w → (i < first) ⊎ (first + n ≤ i) → origin_byte w E oldest m' i ≡ origin_byte w E oldest m i

-- The window has moved on from b, so that `stay` of its positions stay, and a packet has brought the n positions from its `first` on.
pub record Updated (w E oldest stay first n : ℕ) (m m' : List ℕ) : Type 0 where
  pub only : OnlyOrigins w E m m'
  pub hears : (b rise : ℕ) (H : Origins) → (b + rise) % w ≡ oldest → stay ≡ w - rise → Hears w E b m H
      → Hears w E (b + rise) m' (bringing (b + rise + first) n H)
