-- `sender::repair::lay` meets its contract.
use Rattle.std.specs.Prelude.{◌≡◌}
use Rattle.words.specs.Words.{arith, length, refl, length-set}
use Rattle.sender.proofs.Laying.{laying_none, laying_more}
use Rattle.sender.proofs.repair.lay.Goals as goal

pub loop-coefficient-init : goal.loop-coefficient-init
loop-coefficient-init c = (refl, laying_none _ _ _ c.requires.0 c.requires.3)

pub loop-coefficient-preserved : goal.loop-coefficient-preserved
loop-coefficient-preserved c =
    let l = c.loop-coefficient in
    let e : length l.cs ≡ length c.args.cs.now = l.invariant.0 in
    (rw length-set e, laying_more _ _ _ _ _ _ (omega arith) (rw e c.next-slot.ensures.0) l.invariant.1)
