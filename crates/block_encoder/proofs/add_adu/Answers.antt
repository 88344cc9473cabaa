-- `block_encoder::add_adu` meets its contract.
use Rattle.std.specs.Prelude.{◌≡◌, ◌≤◌, ◌<◌, ◌+◌}
use Rattle.words.specs.Words.{arith, ℕ, length, ◌∙◌, sym, Some, leb-true}
use Rattle.blocks.specs.Stored.{block_in}
use Rattle.blocks.proofs.Stored.{Headed, headed}
use Rattle.block_encoder.proofs.Promising.{promise_refused, adding_short, adding_full, adding-long}
use Rattle.block_encoder.proofs.Taking.{symbols-room, symbol_room, taken_is, added}
use Rattle.block_encoder.proofs.add_adu.Goals as goal
use Rattle.block_encoder.proofs.add_adu.Goals.{In_ok-block}

-- The block that the memory was opened for.
has : (c : In_ok-block) → block_in 3 c.args.mem.now ≡ Some c.in_ok-block.block
has c = sym c.read_block.ensures ∙ c.in_ok-block.ensures.ok_part

says : (c : In_ok-block) → Headed 3 c.args.mem.now c.in_ok-block.block
says c = headed 3 _ _ (has c)

-- Where there is a place for one more, that is one of the first 255.
small : (c : In_ok-block) (n : ℕ) → n < c.in_ok-block.block.k → n < 255
small c n next = let v = (says c).valid.values in omega (arith, next, v.1, v.2)

pub returns-then-not-has_room : goal.returns-then-not-has_room
returns-then-not-has_room c =
    promise_refused _ _ _ _ (has (goal.at.returns-then-not-has_room c).In_ok-block) _ (λ e. omega arith)
    (λ s k q. adding_short _ _ _ s (sym c.has_room.ensures ∙ c.if-not-has_room.true))

pub load_u16-taken-requires : goal.load_u16-taken-requires
load_u16-taken-requires c = omega (arith, (says (goal.at.load_u16-taken-requires c).In_ok-block).room, symbols-room c.in_ok-block.block)

pub returns-then-block-taken : goal.returns-then-block-taken
returns-then-block-taken c =
    promise_refused _ _ _ _ (has (goal.at.returns-then-block-taken c).In_ok-block) _ (λ e. omega arith)
    (λ s k q.
    adding_full _ _ _ s (sym c.has_room.ensures ∙ c.if-not-has_room.false) _ q _ (taken_is _ _ c.load_u16-taken.ensures ∙ k.count)
    c.if-block-taken.true)

pub overflow_sub-block : goal.overflow_sub-block
overflow_sub-block c = omega (arith, (says (goal.at.overflow_sub-block c).In_ok-block).valid.size_least)

pub returns-then-block-adu : goal.returns-then-block-adu
returns-then-block-adu c =
    let v = (says (goal.at.returns-then-block-adu c).In_ok-block).valid in
    promise_refused _ _ _ _ (has (goal.at.returns-then-block-adu c).In_ok-block) _ (λ e. omega arith)
    (λ s k q.
    adding-long _ _ _ s (sym c.has_room.ensures ∙ c.if-not-has_room.false) _ q _ (taken_is _ _ c.load_u16-taken.ensures ∙ k.count)
    c.if-block-taken.false (omega (arith, c.if-block-adu.true, v.size_least)))

pub put_adu-requires : goal.put_adu-requires
put_adu-requires c =
    let before = (goal.at.put_adu-requires c).In_ok-block in
    let says = says before in
    let v = says.valid in (
      v.size_least,
      v.size_most,
      small before _ c.if-block-taken.false,
      omega (arith, says.room, symbol_room c.in_ok-block.block _ c.if-block-taken.false),
      omega (arith, c.if-block-adu.false, v.size_least),
    )

pub overflow_cast-taken-2 : goal.overflow_cast-taken-2
overflow_cast-taken-2 c = omega (arith, small (goal.at.overflow_cast-taken-2 c).In_ok-block _ c.if-block-taken.false)

pub store_u16-requires : goal.store_u16-requires
store_u16-requires c =
    omega (arith, (says (goal.at.store_u16-requires c).In_ok-block).room, symbols-room c.in_ok-block.block, c.put_adu.auto.mem)

pub write_source-requires : goal.write_source-requires
write_source-requires c =
    let before = (goal.at.write_source-requires c).In_ok-block in (
      (says before).valid,
      omega (arith, small before _ c.if-block-taken.false),
      leb-true _ _ (sym c.has_room.ensures ∙ c.if-not-has_room.false),
    )

pub returns : goal.returns
returns c =
    let before = (goal.at.returns c).In_ok-block in
    let short : 3 + length c.args.adu.now ≤ c.in_ok-block.block.size = omega (arith, c.if-block-adu.false, (says before).valid.size_least) in
    added _ _ _ _ _ (has before) c.if-block-taken.false short (taken_is _ _ c.load_u16-taken.ensures) _ _ _ _
    (sym c.has_room.ensures ∙ c.if-not-has_room.false) c.put_adu.ensures c.store_u16.ensures c.write_source.ensures
