-- What the answers of a packet call, of the symbol call and of the ADU call say.
use Rattle.words.specs.Words.{ℕ, Bool}
use Rattle.std.specs.Prelude.{◌+◌, ◌*◌, Result, Ok, Err}
use Rattle.wire.specs.Numbers.{number_of}
use Rattle.wire.specs.Answers.{Said, value, refusal}
use Rattle.wire.specs.declared.Refusal.{Refusal}

-- The answer to a packet call, without the draws.
abbrev pub answer_of : Result (ℕ × ℕ) Refusal → Result ℕ Refusal
answer_of (Ok (n, draws)) = Ok n
answer_of (Err r) = Err r

-- The answer to the symbol call, without the origin.
abbrev pub shown_of : Result Bool Refusal → Result ℕ Refusal
shown_of (Ok heard) = Ok 0
shown_of (Err r) = Err r

-- Flow and length of an ADU as one number, or the number of a refusal.
abbrev pub handed_said : Result (ℕ × ℕ) Refusal → Said
handed_said (Ok (flow, L)) = value (flow * 65536 + L)
handed_said (Err r) = refusal (number_of r)
