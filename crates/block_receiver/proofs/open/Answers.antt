-- `block_receiver::open` meets its contract.
use Rattle.std.specs.Prelude.{◌≡◌, Ok}
use Rattle.words.specs.Words.{arith, ◌∙◌, sym, ap, subst}
use Rattle.blocks.specs.Block.{block_of, Valid}
use Rattle.blocks.proofs.Values.{block_from, good_names}
use Rattle.blocks.proofs.Stored.{handed_on}
use Rattle.block_receiver.proofs.Opening.{opening-refused, opened-room, opening_done}
use Rattle.block_receiver.proofs.open.Goals as goal
use Rattle.block_receiver.proofs.open.Goals.{In_ok-block}

-- The block is that of the numbers, which is valid.
has : (c : In_ok-block) → block_of c.args.size c.args.k c.args.total c.args.number ≡ Ok c.in_ok-block.block
has c = sym c.block_of.ensures ∙ c.in_ok-block.was

is : (c : In_ok-block) → c.in_ok-block.block ≡ block_from c.args.size c.args.k c.args.total c.args.number
is c = (good_names _ _ _ _ _ (has c)).0

valid : (c : In_ok-block) → Valid (block_from c.args.size c.args.k c.args.total c.args.number)
valid c = subst Valid (is c) (good_names _ _ _ _ _ (has c)).1

good : (c : In_ok-block) → block_of c.args.size c.args.k c.args.total c.args.number ≡ Ok (block_from c.args.size c.args.k c.args.total c.args.number)
good c = has c ∙ ap Ok (is c)

pub returns-in_err-open : goal.returns-in_err-open
returns-in_err-open c =
    let before = (goal.at.returns-in_err-open c).In_ok-block in
    rw (handed_on c.from_residual-in_err-open.ensures.1)
    (opening-refused _ _ _ _ (valid before) (good before) _ _ _ _ c.in_err-open.was c.«open».ensures)

pub write_block-requires : goal.write_block-requires
write_block-requires c =
    let before = (goal.at.write_block-requires c).In_ok-block in
    let room = opened-room _ _ _ _ (valid before) (good before) _ _ _ _ c.in_ok-open.was c.«open».ensures in
    (omega (arith, room), subst Valid (sym (is before)) (valid before))

pub returns : goal.returns
returns c =
    let before = (goal.at.returns c).In_ok-block in
    opening_done _ _ _ _ (valid before) (good before) _ _ _ _ c.in_ok-open.was c.«open».ensures _ _ (is before) c.write_block.ensures
