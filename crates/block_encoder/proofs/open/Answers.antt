-- `block_encoder::open` meets its contract.
use Rattle.std.specs.Prelude.{◌≡◌, ◌≤◌, Ok}
use Rattle.words.specs.Words.{arith, length, ◌∙◌, sym}
use Rattle.history.specs.History.{memory_size}
use Rattle.blocks.specs.Block.{block_of, setting_for, Valid}
use Rattle.blocks.proofs.Values.{good_names, setting_valid}
use Rattle.blocks.proofs.Stored.{handed_on}
use Rattle.block_encoder.proofs.Promising.{kept, opening_bad, opening_short, opening_done}
use Rattle.block_encoder.proofs.Taking.{opens}
use Rattle.block_encoder.proofs.open.Goals as goal
use Rattle.block_encoder.proofs.open.Goals.{In_ok-block}

-- The block of the numbers.
has : (c : In_ok-block) → block_of c.args.size c.args.k c.args.total c.args.number ≡ Ok c.in_ok-block.block
has c = sym c.block_of.ensures ∙ c.in_ok-block.was

valid : (c : In_ok-block) → Valid c.in_ok-block.block
valid c = (good_names _ _ _ _ _ (has c)).1

pub returns-in_err-block : goal.returns-in_err-block
returns-in_err-block c =
    rw (handed_on c.from_residual.ensures.1, opening_bad _ _ _ _ c.args.mem.now _ (sym c.block_of.ensures ∙ c.in_err-block.was))
    (kept _ _ _)

pub memory_size-requires : goal.memory_size-requires
memory_size-requires c = rw c.setting_for.ensures (setting_valid _ (valid (goal.at.memory_size-requires c).In_ok-block))

pub returns-then-mem-memory_size : goal.returns-then-mem-memory_size
returns-then-mem-memory_size c =
    let short = rw (c.memory_size.ensures, c.setting_for.ensures) at c.if-mem-memory_size.true in
    rw (opening_short _ _ _ _ _ _ (has (goal.at.returns-then-mem-memory_size c).In_ok-block) short) (kept _ _ _)

pub write_block-requires : goal.write_block-requires
write_block-requires c =
    let room : memory_size (setting_for c.in_ok-block.block) ≤ length c.args.mem.now =
    rw (c.memory_size.ensures, c.setting_for.ensures) at c.if-mem-memory_size.false in
    (omega (arith, room), valid (goal.at.write_block-requires c).In_ok-block)

pub returns : goal.returns
returns c =
    let before = (goal.at.returns c).In_ok-block in
    let room : memory_size (setting_for c.in_ok-block.block) ≤ length c.args.mem.now =
    rw (c.memory_size.ensures, c.setting_for.ensures) at c.if-mem-memory_size.false in
    rw (opening_done _ _ _ _ _ _ (has before) room, c.write_block.ensures) (opens _ _ (valid before) room)
