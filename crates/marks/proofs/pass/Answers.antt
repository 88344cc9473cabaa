-- `marks::pass` meets its contract.
use Rattle.words.specs.Words.{arith}
use Rattle.marks.proofs.Only.{starts_fits}
use Rattle.marks.proofs.Passing.{noted_only, passed_all}
use Rattle.marks.proofs.pass.Goals as goal

pub note-requires : goal.note-requires
note-requires c =
    omega (arith, c.requires.0.room)

pub step_all-requires : goal.step_all-requires
step_all-requires c =
    (starts_fits c.requires.0 (noted_only c.note.ensures), c.requires.1)

pub returns : goal.returns
returns c =
    passed_all _ _ _ _ _ _ c.requires.0.some_width c.note.ensures c.step_all.ensures
