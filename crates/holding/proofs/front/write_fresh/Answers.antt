-- `holding::front::write_fresh` meets its contract.
use Rattle.std.specs.Prelude.{◌-◌}
use Rattle.words.specs.Words.{ℕ, List, ◌∙◌, ap₂}
use Rattle.memory.specs.Part.{splice}
use Rattle.wire.specs.Packets.{zeros}
use Rattle.holding.specs.Inner.{fresh_memory}
use Rattle.holding.proofs.front.write_fresh.Goals as goal

pub returns : goal.returns
unfolding fresh_memory
returns c =
    c.fill_part.ensures
    ∙ ap₂ (λ (n : ℕ) (l : List ℕ). splice 8 (zeros (n - 8)) l) c.memory_size-rest.ensures c.write_setting.ensures
