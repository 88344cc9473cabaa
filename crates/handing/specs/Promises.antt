-- The contract of an inner function: a reader need not believe it.
-- It holds for every system S that the memory holds for a window from b on, where `base` is the row of b.
use Rattle.std.specs.Prelude.{◌≡◌, ◌%◌, ◌≢◌, Result, Err}
use Rattle.words.specs.Words.{ℕ, List, length}
use Rattle.wire.specs.declared.Refusal.{Refusal}
use Rattle.wire.specs.Numbers.{number_of}
use Rattle.wire.specs.Flows.{flows_in}
use Rattle.decoder.specs.Bytes.{Coded}
use Rattle.decoder.specs.Model.{State}
use Rattle.table.specs.Window.{Window}
use Rattle.starts.specs.Adu.{handing, Leaves, HandedAs}
use Rattle.starts.specs.Starts.{Starts, seen}
use Rattle.marks.specs.Marks.{Marks}

-- The ADU call for the d-th position of the window has been made; refusal 3 is none of its refusals.
pub record HandedOut (w E oldest d : ℕ) (m out out' : List ℕ) (r : Result (ℕ × ℕ) Refusal) : Type 0 where
  pub opened : (x : Refusal) → r ≡ Err x → number_of x ≢ 3
  pub leaves : Leaves out out' r
  pub told : (b : ℕ) (S : State (Coded E) w) (M : Starts) → b % w ≡ oldest → Window w E m b S → Marks w E oldest m M
      → HandedAs (handing E w (flows_in m) (length out) M (seen E w S) d) out out' r
