-- `block_receiver::receive_repair` meets its contract.
use Rattle.std.specs.Prelude.{◌≡◌, Ok}
use Rattle.words.specs.Words.{arith, length, ◌∙◌, sym, ap, subst}
use Rattle.memory.specs.Part.{part}
use Rattle.memory.proofs.Parts.{length_part}
use Rattle.recovery.specs.Block.{Packet}
use Rattle.block_receiver.specs.Reading.{read_by, repair_check}
use Rattle.block_receiver.specs.Inner.{row_with, Ready}
use Rattle.block_receiver.proofs.Taking.{took_as}
use Rattle.block_receiver.proofs.Checking.{RepairPasses, repair_passes, repair_bad}
use Rattle.blocks.proofs.Stored.{handed_on}
use Rattle.block_receiver.proofs.Receiving.{Opens, opened_good, valid, not_opened, failed, own_repair, works, ready, took}
use Rattle.block_receiver.proofs.receive_repair.Goals as goal
use Rattle.block_receiver.proofs.receive_repair.Goals.{In_ok-block, In_ok-esi}

opens : (c : In_ok-block) → Opens c.in_ok-block.block c.args.mem.now c.args.work.now
opens c = opened_good _ _ _ (sym c.opened_for.ensures ∙ c.in_ok-block.was)

-- The packet that passed the checks has a symbol of as many bytes as the block's.
checked : (c : In_ok-esi) → repair_check c.in_ok-block.block c.args.packet.now ≡ Ok c.in_ok-esi.esi
checked c = sym c.check_repair.ensures ∙ c.in_ok-esi.was

passes : (c : In_ok-esi) → RepairPasses c.in_ok-block.block c.args.packet.now c.in_ok-esi.esi
passes c = repair_passes _ _ _ (checked c)

abbrev taken : In_ok-esi → Packet
taken c = record { esi = c.in_ok-esi.esi; symbol = part 6 c.in_ok-block.block.size c.args.packet.now }

sized : (c : In_ok-esi) → length (taken c).symbol ≡ c.in_ok-block.block.size
sized c = length_part 6 c.in_ok-block.block.size c.args.packet.now (omega (arith, (passes c).sized))

pub returns-in_err-block : goal.returns-in_err-block
returns-in_err-block c = rw (handed_on c.from_residual.ensures.1) (not_opened _ _ _ _ (sym c.opened_for.ensures ∙ c.in_err-block.was))

pub check_repair-requires : goal.check_repair-requires
check_repair-requires c = (valid (opens (goal.at.check_repair-requires c).In_ok-block)).size_most

pub returns-in_err-esi : goal.returns-in_err-esi
returns-in_err-esi c =
    let e = sym c.check_repair.ensures ∙ c.in_err-esi.was in
    rw (handed_on c.from_residual-in_err-esi.ensures.1)
    (failed _ _ _ _ (opens (goal.at.returns-in_err-esi c).In_ok-block) _ (repair_bad _ _ _ e) (ap (read_by _) e))

pub part-symbol-requires : goal.part-symbol-requires
part-symbol-requires c = omega (arith, (passes (goal.at.part-symbol-requires c).In_ok-esi).sized)

pub lay_repair-requires : goal.lay_repair-requires
lay_repair-requires c =
    let opens = opens (goal.at.lay_repair-requires c).In_ok-block in
    let before = (goal.at.lay_repair-requires c).In_ok-esi in
    let v = valid opens in
    (v, works opens, omega (arith, (passes before).inside, v.values), rw c.part-symbol.ensures.bytes (sized before))

pub take-requires : goal.take-requires
take-requires c =
    let opens = opens (goal.at.take-requires c).In_ok-block in
    let before = (goal.at.take-requires c).In_ok-esi in
    let laid : c.lay_repair.new.work ≡ row_with c.in_ok-block.block.k (taken before).esi (taken before).symbol c.args.work.now =
    rw c.part-symbol.ensures.bytes at c.lay_repair.ensures in (
      subst (Ready c.in_ok-block.block c.args.mem.now) (sym laid) (ready _ _ _ opens (taken before) (sized before)),
      omega (arith, (valid opens).values.0),
    )

pub returns : goal.returns
returns c =
    let before = (goal.at.returns c).In_ok-esi in
    let laid : c.lay_repair.new.work ≡ row_with c.in_ok-block.block.k (taken before).esi (taken before).symbol c.args.work.now =
    rw c.part-symbol.ensures.bytes at c.lay_repair.ensures in
    took _ _ _ (opens (goal.at.returns c).In_ok-block) (taken before) (sized before) _ (ap (read_by _) (checked before)) _ _
    (own_repair c.in_ok-block.block (taken before) (passes before).past) _ _ _ (took_as laid c.take.ensures)
