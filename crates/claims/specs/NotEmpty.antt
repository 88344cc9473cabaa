-- The claims are not empty: from every opened memory, every list of packet calls has a run.
use Rattle.std.specs.Prelude.{◌≡◌, ◌∷◌, Result}
use Rattle.words.specs.Words.{ℕ, List, [], map}
use Rattle.wire.specs.Answers.{value, said}
use Rattle.history.specs.History.{Call, OfBytes}
use Rattle.receiver.specs.Promises.{Opened}
use Rattle.receiver.specs.Layout.{receiver_layout}
use Rattle.claims.specs.Run.{Step, Run}
use Rattle.wire.specs.declared.Refusal.{Refusal}

-- A call to come: the packet with its flow, and the working memory.
pub record Asked : Type 0 where
  pub call : Call
  pub working : List ℕ

abbrev pub asked : Step → Asked
asked t = record { call = t.call; working = t.working }

abbrev pub AllOfBytes : List Asked → Type 0
AllOfBytes [] = Unit {0}
AllOfBytes (c ∷ cs) = OfBytes c.call × AllOfBytes cs

abbrev pub RunsExist : Type 0
RunsExist =
    (scheme E w : ℕ) (flows m₀ m : List ℕ) (a : Result ℕ Refusal) → Opened receiver_layout scheme E w flows m₀ m a → said a ≡ value 0
    → (cs : List Asked) → AllOfBytes cs → (ts : List Step) × Run receiver_layout m ts × (map asked ts ≡ cs)
