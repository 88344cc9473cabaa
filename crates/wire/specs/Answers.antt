-- What a call answers, as document 01 numbers it.
use Rattle.std.specs.Prelude.{Result, Ok, Err}
use Rattle.words.specs.Words.{ℕ}
use Rattle.wire.specs.Numbers.{number_of}
use Rattle.wire.specs.declared.Refusal.{Refusal}

-- what a call says: a number, or the number of a refusal
pub data Said : Type 0 where
  value : ℕ → Said
  refusal : ℕ → Said

-- what an answer says
abbrev pub said : Result ℕ Refusal → Said
said (Ok n) = value n
said (Err r) = refusal (number_of r)
