-- `placing::is_known` meets its contract.
use Rattle.std.specs.Prelude.{◌+◌}
use Rattle.words.specs.Words.{arith, ◌∙◌, sym, ap, get_or, eqb}
use Rattle.table.proofs.Flags.{flag_at}
use Rattle.placing.proofs.Showing.{flag-known}
use Rattle.table.proofs.Offsets.{row_end}
use Rattle.placing.proofs.is_known.Goals as goal

pub overflow_add-result : goal.overflow_add-result
overflow_add-result c =
    let a = c.args in
    omega (arith, row_end a.shape.width a.shape.size a.r (omega arith))

pub bounds-mem-at : goal.bounds-mem-at
bounds-mem-at c =
    let a = c.args in
    omega (arith, row_end a.shape.width a.shape.size a.r (omega arith))

pub returns : goal.returns
returns c =
    let a = c.args in
    let w = a.shape.width in
    let E = a.shape.size in
    let at = c.row_offset-at in
    flag-known w E a.r a.mem.now c.requires.0 (omega arith) (λ i. (c.type_inv.mem i).fits) _
    (ap (λ f. eqb f 2) (flag_at w E a.r a.mem.now) ∙ ap (λ k. eqb (get_or a.mem.now (k + (w + E)) 0) 2) (sym at.ensures.start))
