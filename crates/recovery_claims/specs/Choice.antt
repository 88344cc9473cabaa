-- What is claimed of a recovery leaves it no choice.
use Rattle.std.specs.Prelude.{◌≡◌}
use Rattle.words.specs.Words.{List, map}
use Rattle.wire.specs.Answers.{said}
use Rattle.claims.specs.Run.{Step}
use Rattle.claims.specs.NoChoice.{Alike}
use Rattle.blocks.specs.declared.Block.{Block}
use Rattle.recovery_claims.specs.Judged.{Answered}

-- Two that meet it answer the same calls alike.
abbrev pub NoChoice : Type 0
NoChoice =
    (b : Block) (ts us : List Step) → Alike ts us → Answered b ts → Answered b us → map (λ t. said t.answer) ts ≡ map (λ u. said u.answer) us
