-- `block_receiver::check::opened_for` meets its contract.
use Rattle.words.specs.Words.{sym, ◌∙◌}
use Rattle.blocks.proofs.Values.{setting_valid}
use Rattle.blocks.proofs.Stored.{headed}
use Rattle.block_receiver.proofs.check.opened_for.Goals as goal

pub working_size-requires : goal.working_size-requires
working_size-requires c = rw c.setting_for.ensures (setting_valid _ (headed 4 _ _ (sym c.read_block.ensures ∙ c.in_ok-block.ensures.ok_part)).valid)
