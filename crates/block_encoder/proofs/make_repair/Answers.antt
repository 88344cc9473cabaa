-- `block_encoder::make_repair` meets its contract.
use Rattle.std.specs.Prelude.{◌≡◌}
use Rattle.std.proofs.Common.{⊎_elim}
use Rattle.words.specs.Words.{arith, ◌∙◌, sym, Some, leb-true}
use Rattle.blocks.specs.Stored.{block_in}
use Rattle.blocks.proofs.Stored.{Headed, headed}
use Rattle.block_encoder.proofs.Promising.{promise_refused, repairing_short, repairing_low, repairing_high, repairing_early}
use Rattle.block_encoder.proofs.Encoding.{made}
use Rattle.block_encoder.proofs.Taking.{symbols-room, taken_is}
use Rattle.block_encoder.proofs.make_repair.Goals as goal
use Rattle.block_encoder.proofs.make_repair.Goals.{In_ok-block}

-- The block that the memory was opened for.
has : (c : In_ok-block) → block_in 3 c.args.mem.now ≡ Some c.in_ok-block.block
has c = sym c.read_block.ensures ∙ c.in_ok-block.ensures.ok_part

says : (c : In_ok-block) → Headed 3 c.args.mem.now c.in_ok-block.block
says c = headed 3 _ _ (has c)

pub returns-then-not-has_room : goal.returns-then-not-has_room
returns-then-not-has_room c =
    promise_refused _ _ _ _ (has (goal.at.returns-then-not-has_room c).In_ok-block) _ (λ e. omega arith)
    (λ s k q. repairing_short _ _ s _ q (sym c.has_room.ensures ∙ c.if-not-has_room.true))

pub returns-then-esi-block : goal.returns-then-esi-block
returns-then-esi-block c =
    let roomy = sym c.has_room.ensures ∙ c.if-not-has_room.false in
    promise_refused _ _ _ _ (has (goal.at.returns-then-esi-block c).In_ok-block) _ (λ e. omega arith)
    (λ s k q.
    ⊎_elim (λ l. repairing_low _ _ s _ q roomy l) (λ h. repairing_high _ _ s _ q roomy h.0 h.1)
    c.then-esi-block.either)

pub load_u16-requires : goal.load_u16-requires
load_u16-requires c = omega (arith, (says (goal.at.load_u16-requires c).In_ok-block).room, symbols-room c.in_ok-block.block)

pub returns-then-load_u16-block : goal.returns-then-load_u16-block
returns-then-load_u16-block c =
    promise_refused _ _ _ _ (has (goal.at.returns-then-load_u16-block c).In_ok-block) _ (λ e. omega arith)
    (λ s k q.
    repairing_early _ _ s _ q (sym c.has_room.ensures ∙ c.if-not-has_room.false) c.if-esi-block.false c.if-block-esi.false _
    (taken_is _ _ c.load_u16.ensures ∙ k.count) c.if-load_u16-block.true)

pub write_repair-requires : goal.write_repair-requires
write_repair-requires c =
    let says = says (goal.at.write_repair-requires c).In_ok-block in
    let v = says.valid in (
      v,
      omega (arith, c.if-block-esi.false, v.values.2),
      omega (arith, leb-true _ _ (sym c.has_room.ensures ∙ c.if-not-has_room.false)),
      omega (arith, says.room, symbols-room c.in_ok-block.block),
    )

pub returns : goal.returns
returns c =
    made _ _ _ _ _ (has (goal.at.returns c).In_ok-block) (sym c.has_room.ensures ∙ c.if-not-has_room.false) c.if-esi-block.false
    c.if-block-esi.false _ (taken_is _ _ c.load_u16.ensures) c.if-load_u16-block.false c.write_repair.ensures
