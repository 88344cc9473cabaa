-- `marks::update` meets its contract.
use Rattle.std.specs.Prelude.{◌<◌}
use Rattle.words.specs.Words.{sym, subst, mod-lt}
use Rattle.marks.proofs.Only.{only_fits, only_trans}
use Rattle.marks.proofs.Passing.{updated}
use Rattle.marks.proofs.update.Goals as goal

pub set_own-requires : goal.set_own-requires
set_own-requires c =
    let oldest = subst (λ x. x < c.args.shape.width) (sym c.requires.2) (mod-lt _ c.requires.0.some_width) in
    (only_fits c.requires.0 c.move_on.ensures.only, oldest, c.requires.3)

pub reach-requires : goal.reach-requires
reach-requires c =
    let oldest = subst (λ x. x < c.args.shape.width) (sym c.requires.2) (mod-lt _ c.requires.0.some_width) in
    (only_fits c.requires.0 (only_trans c.move_on.ensures.only c.set_own.ensures.only), oldest, c.requires.3)

pub returns : goal.returns
returns c =
    updated _ _ _ _ _ _ _ _ _ _ _ _ c.requires.0 c.requires.2 c.move_on.ensures c.set_own.ensures c.reach.ensures
