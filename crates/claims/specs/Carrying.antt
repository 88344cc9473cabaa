-- A filling that carries a sender's symbols.
use Rattle.std.specs.Prelude.{◌≡◌, ◌≤◌, ◌+◌, ◌<◌}
use Rattle.words.specs.Words.{ℕ, List, length, [], get_or}
use Rattle.history.specs.Symbol.{bytes_of}
use Rattle.history.specs.History.{Filling}

-- A filling carries a sender's symbols, as numbered from the position `join` on, when it holds each at its position: the sender's symbol number
-- p + offset at the position p. Those before the joining one have no position.
abbrev pub Carries : (E join offset : ℕ) → List (List ℕ) → Filling E → Type 0
Carries E join offset all f = (p : ℕ) → join ≤ p → p + offset < length all → bytes_of E (f p) ≡ get_or all (p + offset) []
