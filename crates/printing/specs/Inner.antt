-- What the printing functions promise: of a buffer, the bytes before a place are kept, a text follows them, and what comes after it is kept.
use Rattle.std.specs.Prelude.{◌≡◌, ◌≤◌, ◌+◌, ◌++◌}
use Rattle.words.specs.Words.{ℕ, List, length, drop, take}

-- `text` was put into `out` from `at` on, up to `next`; `out'` is the buffer afterwards
pub record Put (out out' : List ℕ) (at next : ℕ) (text : List ℕ) : Type 0 where
  pub bytes : take next out' ≡ take at out ++ text
  pub ends : next ≡ at + length text
  pub within : next ≤ length out'
  pub past : drop next out' ≡ drop next out
