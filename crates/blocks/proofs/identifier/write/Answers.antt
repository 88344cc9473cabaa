-- `blocks::identifier::write` meets its contract.
use Rattle.std.specs.Prelude.{◌+◌}
use Rattle.words.specs.Words.{arith, List, ℕ, ◌∙◌, ap}
use Rattle.memory.specs.Part.{splice}
use Rattle.memory.specs.Number.{bytes}
use Rattle.blocks.proofs.Identifiers.{written}
use Rattle.blocks.proofs.identifier.write.Goals as goal

pub returns : goal.returns
returns c =
    let a = c.args in
    c.store_u16.ensures
    ∙ ap (λ (m : List ℕ). splice (a.at + 4) (bytes 2 a.id.k) m) c.store_u32.ensures ∙ written a.id a.out.now a.at (omega arith)
