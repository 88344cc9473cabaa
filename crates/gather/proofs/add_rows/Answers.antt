-- `gather::add_rows` meets its contract.
use Rattle.std.specs.Prelude.{◌+◌, ◌*◌}
use Rattle.words.specs.Words.{arith, sym, ap₂, length-take-le}
use Rattle.gather.proofs.Reducing.{length_lent, rows-added}
use Rattle.gather.proofs.add_rows.Goals as goal

pub slice_bounds-add_combination-end-2 : goal.slice_bounds-add_combination-end-2
slice_bounds-add_combination-end-2 c =
    let a = c.args in
    sym (length-take-le a.shape.width a.multipliers.now (omega arith))

pub add_combination-requires : goal.add_combination-requires
add_combination-requires c =
    let a = c.args in
    let count = length-take-le a.shape.width a.multipliers.now (omega arith) in (
      omega (arith, length_lent c.row_offset-at.result (a.shape.width + a.shape.size) a.work.now (omega arith)),
      omega (arith, ap₂ (λ k n. k * n) count c.stride-stride.ensures, c.requires.0.room),
    )

pub returns : goal.returns
returns c =
    let a = c.args in
    let at = c.row_offset-at in
    let first = c.row_offset-first in
    let sum = c.add_combination in
    rows-added a.shape.width a.shape.size a.k at.result first.result c.stride-stride.result a.mem.now a.work.now
    a.multipliers.now sum.new.dst at.ensures.start (omega (arith, first.ensures.start)) c.stride-stride.ensures (omega arith) (omega arith)
    sum.ensures sum.auto.dst
