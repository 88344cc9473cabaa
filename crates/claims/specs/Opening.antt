-- Every opening of a receiver (document 01, "Words and sizes" and "Why a call says no"): 1, 2, else 0; a refusal leaves the memory.
use Rattle.std.specs.Prelude.{Result}
use Rattle.words.specs.Words.{ℕ, List}
use Rattle.wire.specs.Answers.{said}
use Rattle.wire.specs.Opening.{receiver_memory, OpeningJudged}
use Rattle.receiver.specs.Promises.{Layout, Opened}
use Rattle.wire.specs.declared.Refusal.{Refusal}

abbrev pub EveryOpening : Layout → Type 0
EveryOpening L =
    (scheme E w : ℕ) (flows m m' : List ℕ) (a : Result ℕ Refusal) → Opened L scheme E w flows m m' a → OpeningJudged (receiver_memory E w) scheme E w m (said a) m'
