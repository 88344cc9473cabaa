-- Demand 3 leaves a receiver no choice.
use Rattle.std.specs.Prelude.{◌≡◌, ◌∷◌}
use Rattle.words.specs.Words.{ℕ, List, length, [], map}
use Rattle.wire.specs.declared.Setting.{Setting}
use Rattle.wire.specs.Answers.{said}
use Rattle.claims.specs.Run.{Step}
use Rattle.claims.specs.Demand.{Answered}

-- The same calls: packets, flows, and as much working memory.
abbrev pub Alike : List Step → List Step → Type 0
Alike [] [] = Unit {0}
Alike [] (u ∷ us) = ⊥
Alike (t ∷ ts) [] = ⊥
Alike (t ∷ ts) (u ∷ us) = (t.call ≡ u.call) × (length t.working ≡ length u.working) × Alike ts us

-- Demand 3 leaves a receiver no choice: two that meet it answer the same calls alike.
abbrev pub NoChoice : Type 0
NoChoice =
    (s : Setting) (flows : List ℕ) (ts us : List Step) → Alike ts us → Answered s flows ts → Answered s flows us
    → map (λ t. said t.answer) ts ≡ map (λ u. said u.answer) us
