-- `block_receiver::receive_source` meets its contract.
use Rattle.std.specs.Prelude.{◌≡◌, ◌≤◌, ◌+◌, ◌-◌, Ok}
use Rattle.words.specs.Words.{arith, ℕ, length, List, ◌∙◌, sym, ap, subst}
use Rattle.memory.specs.Part.{part}
use Rattle.memory.proofs.Parts.{length_part}
use Rattle.wire.specs.Packets.{symbol_at}
use Rattle.recovery.specs.Block.{Packet}
use Rattle.block_receiver.specs.Reading.{read_by, source_check}
use Rattle.block_receiver.specs.Inner.{row_with, Ready}
use Rattle.block_receiver.proofs.Taking.{took_as}
use Rattle.block_receiver.proofs.Checking.{SourcePasses, source_passes, source_bad}
use Rattle.blocks.proofs.Stored.{handed_on}
use Rattle.blocks.proofs.Symbols.{symbol_sized}
use Rattle.block_receiver.proofs.Receiving.{Opens, opened_good, valid, not_opened, failed, own_source, works, ready, took}
use Rattle.block_receiver.proofs.receive_source.Goals as goal
use Rattle.block_receiver.proofs.receive_source.Goals.{In_ok-block, In_ok-esi, After-lay_source}

opens : (c : In_ok-block) → Opens c.in_ok-block.block c.args.mem.now c.args.work.now
opens c = opened_good _ _ _ (sym c.opened_for.ensures ∙ c.in_ok-block.was)

-- The packet that passed the checks: its ADU is short, and its symbol has as many bytes as the block's.
checked : (c : In_ok-esi) → source_check c.in_ok-block.block c.args.packet.now ≡ Ok c.in_ok-esi.esi
checked c = sym c.check_source.ensures ∙ c.in_ok-esi.was

passes : (c : In_ok-esi) → SourcePasses c.in_ok-block.block c.args.packet.now c.in_ok-esi.esi
passes c = source_passes _ _ _ (checked c)

abbrev adu : In_ok-esi → List ℕ
adu c = part 0 (length c.args.packet.now - 6) c.args.packet.now

short : (c : In_ok-esi) → 3 + length (adu c) ≤ c.in_ok-block.block.size
short c =
    let p = passes c in
    omega (arith, length_part 0 (length c.args.packet.now - 6) c.args.packet.now (omega (arith, p.whole)), p.whole, p.short)

abbrev taken : In_ok-esi → Packet
taken c = record { esi = c.in_ok-esi.esi; symbol = symbol_at c.args.flow (adu c) c.in_ok-block.block.size 0 }

sized : (c : In_ok-esi) → length (taken c).symbol ≡ c.in_ok-block.block.size
sized c = symbol_sized _ (adu c) c.in_ok-block.block.size (short c)

pub returns-in_err-block : goal.returns-in_err-block
returns-in_err-block c = rw (handed_on c.from_residual.ensures.1) (not_opened _ _ _ _ (sym c.opened_for.ensures ∙ c.in_err-block.was))

pub returns-in_err-esi : goal.returns-in_err-esi
returns-in_err-esi c =
    let e = sym c.check_source.ensures ∙ c.in_err-esi.was in
    rw (handed_on c.from_residual-in_err-esi.ensures.1)
    (failed _ _ _ _ (opens (goal.at.returns-in_err-esi c).In_ok-block) _ (source_bad _ _ _ e) (ap (read_by _) e))

pub overflow_sub-packet : goal.overflow_sub-packet
overflow_sub-packet c = (passes (goal.at.overflow_sub-packet c).In_ok-esi).whole

pub part-adu-requires : goal.part-adu-requires
part-adu-requires c = omega (arith, (passes (goal.at.part-adu-requires c).In_ok-esi).whole)

pub lay_source-requires : goal.lay_source-requires
lay_source-requires c =
    let opens = opens (goal.at.lay_source-requires c).In_ok-block in
    let before = (goal.at.lay_source-requires c).In_ok-esi in
    let v = valid opens in
    (v, works opens, omega (arith, (passes before).inside, v.values), rw c.part-adu.ensures.bytes (short before))

pub take-requires : goal.take-requires
take-requires c =
    let before = (goal.at.take-requires c).In_ok-esi in
    let laid : c.lay_source.new.work ≡ row_with c.in_ok-block.block.k (taken before).esi (taken before).symbol c.args.work.now =
    rw c.part-adu.ensures.bytes at c.lay_source.ensures in (
      subst (Ready c.in_ok-block.block c.args.mem.now) (sym laid)
          (ready _ _ _ (opens (goal.at.take-requires c).In_ok-block) (taken before) (sized before)),
      omega (arith, (passes before).inside),
    )

pub returns : goal.returns
returns c =
    let before = (goal.at.returns c).In_ok-esi in
    let laid : c.lay_source.new.work ≡ row_with c.in_ok-block.block.k (taken before).esi (taken before).symbol c.args.work.now =
    rw c.part-adu.ensures.bytes at c.lay_source.ensures in
    took _ _ _ (opens (goal.at.returns c).In_ok-block) (taken before) (sized before) _ (ap (read_by _) (checked before)) _ _
    (own_source c.in_ok-block.block (taken before) (passes before).inside) _ _ _ (took_as laid c.take.ensures)
