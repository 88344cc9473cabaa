-- `block_receiver::find` meets its contract.
use Rattle.std.specs.Prelude.{◌≡◌}
use Rattle.words.specs.Words.{arith, Some, sym, ◌∙◌}
use Rattle.holding.proofs.Headers.{memory_is}
use Rattle.blocks.specs.Block.{setting_for}
use Rattle.blocks.specs.Stored.{block_in}
use Rattle.blocks.proofs.Stored.{headed}
use Rattle.block_receiver.proofs.Finding.{block_fits, known_as, finds_past, finds_unknown, finds_at}
use Rattle.block_receiver.proofs.find.Goals as goal
use Rattle.block_receiver.proofs.find.Goals.{In_ok-block, then-block-esi-via-then-block-esi, then-block-esi-via-else-block-esi+then-not-is_known}

-- The block that the memory was opened for.
has : (c : In_ok-block) → block_in 4 c.args.mem.now ≡ Some c.in_ok-block.block
has c = sym c.read_block.ensures ∙ c.in_ok-block.ensures.ok_part

pub returns-then-block-esi : goal.returns-then-block-esi
returns-then-block-esi c =
    let has = has (goal.at.returns-then-block-esi c).In_ok-block in
    elim c.then-block-esi.branch [
      | then-block-esi-via-then-block-esi w ↦ finds_past _ _ _ has w.if-block-esi.true
      | then-block-esi-via-else-block-esi+then-not-is_known w ↦
          finds_unknown _ _ _ has w.if-block-esi.false
          (known_as c.in_ok-block.block _ _ _ _ _ c.shape_of-shape.ensures w.if-not-is_known.true w.is_known.ensures)
    ]

pub is_known-requires : goal.is_known-requires
is_known-requires c = rw c.shape_of-shape.ensures (block_fits _ _ (has (goal.at.is_known-requires c).In_ok-block), c.if-block-esi.false)

pub is_heard-heard-requires : goal.is_heard-heard-requires
is_heard-heard-requires c =
    let b = c.in_ok-block.block in
    let has = has (goal.at.is_heard-heard-requires c).In_ok-block in
    rw c.shape_of-shape.ensures (block_fits _ b has, omega (arith, memory_is (setting_for b), (headed 4 _ _ has).room), c.if-block-esi.false)

pub symbol_offset-requires : goal.symbol_offset-requires
symbol_offset-requires c =
    let f = block_fits _ _ (has (goal.at.symbol_offset-requires c).In_ok-block) in
    rw c.shape_of-shape.ensures (omega (arith, c.if-block-esi.false), f.wide, f.long)

pub returns : goal.returns
returns c =
    rw (c.symbol_offset.ensures.start, c.is_heard-heard.ensures, c.shape_of-shape.ensures)
    (finds_at _ _ _ (has (goal.at.returns c).In_ok-block) c.if-block-esi.false
    (known_as c.in_ok-block.block _ _ _ _ _ c.shape_of-shape.ensures c.if-not-is_known.false c.is_known.ensures)
    (λ i. (c.type_inv.mem i).fits))
