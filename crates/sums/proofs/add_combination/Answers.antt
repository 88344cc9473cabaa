-- `sums::add_combination` meets its contract.
use Rattle.sums.proofs.add_combination.Goals as goal

pub add_blocks-requires : goal.add_blocks-requires
add_blocks-requires c =
    (c.requires.0, c.requires.1, c.holds_strip.ensures c.if-holds_strip.true)
