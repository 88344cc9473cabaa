-- The claims are not empty: from every memory opened to recover a block, every list of packet calls has a run.
use Rattle.std.specs.Prelude.{◌≡◌, Result}
use Rattle.words.specs.Words.{ℕ, List, map}
use Rattle.wire.specs.Answers.{value, said}
use Rattle.claims.specs.Run.{Step}
use Rattle.claims.specs.NotEmpty.{Asked, asked, AllOfBytes}
use Rattle.block_receiver.specs.Promises.{Opened}
use Rattle.block_receiver.specs.Layout.{block_layout}
use Rattle.recovery_claims.specs.Run.{Run}
use Rattle.wire.specs.declared.Refusal.{Refusal}

abbrev pub RunsExist : Type 0
RunsExist =
    (E k total number : ℕ) (m₀ m : List ℕ) (a : Result ℕ Refusal) → Opened block_layout E k total number m₀ m a → said a ≡ value 0
    → (cs : List Asked) → AllOfBytes cs → (ts : List Step) × Run block_layout m ts × (map asked ts ≡ cs)
