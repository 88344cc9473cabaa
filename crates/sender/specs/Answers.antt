-- What the answer to making repair says.
use Rattle.std.specs.Prelude.{Result, Ok, Err}
use Rattle.words.specs.Words.{ℕ}
use Rattle.wire.specs.declared.Refusal.{Refusal}

-- the answer to making repair, without the draws
abbrev pub answer_of : Result (ℕ × ℕ) Refusal → Result ℕ Refusal
answer_of (Ok (n, draws)) = Ok n
answer_of (Err n) = Err n

-- the draws; a refusal has none
abbrev pub draws_in : Result (ℕ × ℕ) Refusal → ℕ
draws_in (Ok (n, draws)) = draws
draws_in (Err n) = 0
