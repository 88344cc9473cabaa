-- Contracts of inner functions: a reader need not believe these.
-- Each holds for every system S that the memory holds for a window from b on, where `base` is the row of b.
use Rattle.std.specs.Prelude.{◌≡◌, ◌+◌, ◌%◌}
use Rattle.words.specs.Words.{ℕ, List}
use Rattle.decoder.specs.Bytes.{Coded}
use Rattle.decoder.specs.Model.{State}
use Rattle.table.specs.Window.{Window}
use Rattle.starts.specs.Starts.{Starts, also, moved, pass, seen}
use Rattle.marks.specs.Marks.{Marks, OnlyMarks, noted_in, OnlyStarts}
use Rattle.starts.specs.Settled.{Settled}

-- One more position is marked.
pub record MarkSet (w E oldest i : ℕ) (m m' : List ℕ) : Type 0 where
  pub only : OnlyMarks w E m m'
  pub marks : (M : Starts) → Marks w E oldest m M → Marks w E oldest m' (also i M)

-- The base has risen from the row `base` on.
pub record MarksMoved (w E oldest rise : ℕ) (m m' : List ℕ) : Type 0 where
  pub only : OnlyMarks w E m m'
  pub marks : (M : Starts) → Marks w E oldest m M → Marks w E ((oldest + rise) % w) m' (moved w rise M)

-- The pass through the window has been made.
pub record Passed (w E oldest : ℕ) (m m' : List ℕ) : Type 0 where
  pub only : OnlyStarts w E m m'
  pub marks : (b : ℕ) (S : State (Coded E) w) (M : Starts) → b % w ≡ oldest → Window w E m b S → Marks w E oldest m M
      → Marks w E oldest m' (pass E (seen E w S) w M) × Settled E w (seen E w S) (noted_in m') (pass E (seen E w S) w M)
