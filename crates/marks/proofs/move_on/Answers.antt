-- `marks::move_on` meets its contract.
use Rattle.words.specs.Words.{arith, refl}
use Rattle.table.proofs.Offsets.{header-long}
use Rattle.marks.proofs.Only.{only_fits, only_trans}
use Rattle.marks.proofs.Marking.{written-only, moved_none, moved-far, moved_near}
use Rattle.marks.proofs.move_on.Goals as goal

pub returns-then-rise-eq0 : goal.returns-then-rise-eq0
returns-then-rise-eq0 c = moved_none _ _ _ _ _ c.requires.1 c.if-rise-eq0.true

pub returns-then-w-rise : goal.returns-then-w-rise
returns-then-w-rise c =
    moved-far _ _ _ _ _ _ c.requires.1 c.if-w-rise.true c.drop_first.ensures

pub bounds-mem-10 : goal.bounds-mem-10
bounds-mem-10 c = omega (arith, header-long)

pub write-requires : goal.write-requires
write-requires c =
    (only_fits c.requires.0 c.drop_first-2.ensures.only, omega arith, omega arith)

pub write-requires-2 : goal.write-requires-2
write-requires-2 c =
    let only = only_trans c.drop_first-2.ensures.only (written-only c.requires.0.some_width c.write.ensures) in
    (only_fits c.requires.0 only, omega arith, omega arith)

pub returns : goal.returns
returns c =
    moved_near _ _ _ _ _ _ _ _ _ (omega arith) c.if-w-rise.false refl c.drop_first-2.ensures c.write.ensures c.write-2.ensures
