-- `gather::eliminate` meets its contract.
use Rattle.std.specs.Prelude.{◌+◌}
use Rattle.words.specs.Words.{arith, rules, inr}
use Rattle.gather.proofs.Framing.{row_room}
use Rattle.gather.proofs.Reducing.{flag-lt, rows_apart, eliminated}
use Rattle.gather.proofs.eliminate.Goals as goal

pub overflow_add-factor : goal.overflow_add-factor
overflow_add-factor c =
    let a = c.args in
    omega (arith, c.type_inv.work (c.row_offset-from.result + (a.shape.width + a.shape.size)))

pub bounds-work-at : goal.bounds-work-at
bounds-work-at c =
    let a = c.args in
    let low = flag-lt a.shape.width a.shape.size a.k a.j c.row_offset-at.result
    c.row_offset-from.result a.work.now c.row_offset-at.ensures.start
    c.row_offset-from.ensures.start c.requires.0 c.requires.1 in
    omega (arith, low, row_room a.shape.width a.shape.size a.k a.work.now c.requires.0)

pub add_within-requires : goal.add_within-requires
add_within-requires c =
    let a = c.args in (
      search rules,
      search rules,
      inr (rows_apart a.shape.width a.shape.size a.k a.j c.row_offset-at.result
          c.row_offset-from.result a.work.now c.row_offset-at.ensures.start
          c.row_offset-from.ensures.start c.requires.0 c.requires.1),
    )

pub returns : goal.returns
returns c =
    let a = c.args in
    eliminated a.shape.width a.shape.size a.k a.j c.row_offset-at.result
    c.row_offset-from.result a.work.now
    c.row_offset-at.ensures.start
    c.row_offset-from.ensures.start c.requires.0 c.requires.1
    c.add_within.new.mem c.add_within.ensures
