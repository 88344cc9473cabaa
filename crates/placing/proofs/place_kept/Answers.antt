use Rattle.std.specs.Prelude.{◌+◌, ◌<◌}
use Rattle.words.specs.Words.{arith, length, ◌∙◌, sym, ap, get_or, subst}
use Rattle.memory.proofs.Parts.{length_part}
use Rattle.table.specs.Window.{row}
use Rattle.placing.specs.PlaceSteps.{RowPlaced}
use Rattle.table.proofs.Flags.{flag_at}
use Rattle.placing.proofs.Joining.{settled_line, without_flags}
use Rattle.table.proofs.Offsets.{row_end}
use Rattle.placing.proofs.place_kept.Goals as goal

pub overflow_add-r : goal.overflow_add-r
overflow_add-r c =
    let a = c.args in
    omega (arith, row_end a.shape.width a.shape.size a.k (omega arith))

pub bounds-work-at : goal.bounds-work-at
bounds-work-at c =
    let a = c.args in
    omega (arith, row_end a.shape.width a.shape.size a.k (omega arith))

pub part-requires : goal.part-requires
part-requires c =
    let a = c.args in
    omega (arith, row_end a.shape.width a.shape.size a.k (omega arith))

pub place-requires : goal.place-requires
place-requires c =
    let a = c.args in
    let w = a.shape.width in
    let E = a.shape.size in
    let at = c.row_offset-at in
    let column = flag_at w E a.k a.work.now ∙ ap (λ k. get_or a.work.now (k + (w + E)) 0) (sym at.ensures.start) in (
      c.requires.0,
      ap length c.part.ensures.bytes ∙ length_part at.result (w + E) a.work.now (omega (arith, row_end w E a.k (omega arith))),
      subst (λ f. f < w) column c.requires.1.column,
    )

pub returns : goal.returns
returns c =
    let a = c.args in
    let w = a.shape.width in
    let E = a.shape.size in
    let at = c.row_offset-at in
    let done = c.place in
    let column = flag_at w E a.k a.work.now ∙ ap (λ k. get_or a.work.now (k + (w + E)) 0) (sym at.ensures.start) in
    subst (λ f. RowPlaced w E f done.result (row w E a.k a.work.now) a.mem.now done.new.mem) (sym column)
    (settled_line (without_flags w E a.k at.result a.work.now c.requires.0.some_width at.ensures.start)
    (subst (λ l. RowPlaced w E (get_or a.work.now (at.result + (w + E)) 0) done.result l a.mem.now done.new.mem)
    c.part.ensures.bytes done.ensures))
