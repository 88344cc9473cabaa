-- `block_receiver::take::lay_repair` meets its contract.
use Rattle.std.specs.Prelude.{◌+◌}
use Rattle.words.specs.Words.{arith, ℕ, List, refl, ◌∙◌, ap₂}
use Rattle.memory.specs.Part.{splice}
use Rattle.memory.proofs.Parts.{whole}
use Rattle.block_receiver.specs.Inner.{row_with}
use Rattle.block_receiver.proofs.Taking.{work_room}
use Rattle.block_receiver.proofs.take.lay_repair.Goals as goal

pub fill_part-requires : goal.fill_part-requires
fill_part-requires c = let w = c.requires.1 in (omega (arith, work_room _ _ _ w), w.some_width, w.wide, c.requires.2)

pub copy_part-requires : goal.copy_part-requires
copy_part-requires c = (omega (arith, work_room _ _ _ c.requires.1, c.requires.3, c.fill_part.auto.mem), omega arith)

pub returns : goal.returns
unfolding row_with
returns c =
    c.copy_part.ensures
    ∙ ap₂ (λ (x m : List ℕ). splice (96 + c.args.block.k) x m) (whole _ c.args.symbol.now refl) c.fill_part.ensures
