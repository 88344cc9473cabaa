-- `memory::part_mut` meets its contract.
use Rattle.words.specs.Words.{refl}
use native.Mathlib.Nat.{add_comm}
use Rattle.memory.proofs.Parts.{cut}
use Rattle.memory.proofs.part_mut.Goals as goal

pub returns : goal.returns
returns c = record { bytes = cut _ _ _; block = refl; offset = add_comm _ _ }
