-- `placing::set_flag` meets its contract.
use Rattle.std.specs.Prelude.{◌+◌, ◌∷◌}
use Rattle.words.specs.Words.{arith, ◌∙◌, ap, []}
use Rattle.memory.specs.Part.{splice}
use Rattle.table.proofs.Offsets.{row_end}
use Rattle.table.proofs.Rows.{set-splice}
use Rattle.placing.proofs.set_flag.Goals as goal

pub overflow_add-mem : goal.overflow_add-mem
overflow_add-mem c =
    let a = c.args in
    omega (arith, row_end a.shape.width a.shape.size a.r (omega arith))

pub bounds-mem-at : goal.bounds-mem-at
bounds-mem-at c =
    let a = c.args in
    omega (arith, row_end a.shape.width a.shape.size a.r (omega arith))

pub returns : goal.returns
returns c =
    let a = c.args in
    let n = a.shape.width + a.shape.size in
    let at = c.row_offset-at in
    let inside = row_end a.shape.width a.shape.size a.r (omega arith) in
    set-splice a.mem.now (at.result + n) a.v (omega (arith, inside)) ∙ ap (λ k. splice (k + n) (a.v ∷ []) a.mem.now) at.ensures.start
