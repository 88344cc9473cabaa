-- `block_receiver::take::take` meets its contract.
use Rattle.std.specs.Prelude.{◌≡◌, Err}
use Rattle.words.specs.Words.{arith, refl, rules}
use Rattle.table.proofs.Rows.{fits_sized}
use Rattle.holding.proofs.Headers.{memory_is}
use Rattle.wire.specs.declared.Refusal.TheVariants.{Contradiction}
use Rattle.blocks.specs.Block.{setting_for}
use Rattle.block_receiver.proofs.Taking.{inserted_as, updated_as, took_news, took_contradicts}
use Rattle.block_receiver.proofs.take.take.Goals as goal

pub insert-requires : goal.insert-requires
insert-requires c = let g = c.requires.0 in rw c.shape_of-shape.ensures (g.fits, g.works, refl)

pub returns-in_err-n : goal.returns-in_err-n
returns-in_err-n c =
    let b = c.args.block in
    let refused : c.from_residual.result ≡ Err Contradiction = search rules in
    rw refused (took_contradicts b _ _ _ _ c.requires.0 _ _ (inserted_as b c.shape_of-shape.ensures c.in_err-n.ensures.ok_part c.insert.ensures))

pub update-requires : goal.update-requires
update-requires c =
    let g = c.requires.0 in
    let i = inserted_as c.args.block c.shape_of-shape.ensures refl c.insert.ensures in
    rw c.shape_of-shape.ensures (
      fits_sized g.fits i.kept.size,
      omega (arith, g.memory, memory_is (setting_for c.args.block), i.kept.size),
      g.fits.some_width,
      omega arith,
      c.requires.1,
    )

pub returns : goal.returns
returns c =
    let b = c.args.block in
    took_news b _ _ _ _ c.requires.0 _ _ _ _ (inserted_as b c.shape_of-shape.ensures c.in_ok-n.ensures.ok_part c.insert.ensures)
    (updated_as b c.shape_of-shape.ensures c.update.ensures)
