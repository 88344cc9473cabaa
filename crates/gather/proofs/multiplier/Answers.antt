-- `gather::multiplier` meets its contract.
use Rattle.std.specs.Prelude.{◌+◌}
use Rattle.words.specs.Words.{arith, ◌∙◌, sym, ap, get_or}
use Rattle.memory.proofs.Parts.{row_fits}
use Rattle.table.specs.Window.{stride, row, in_use}
use Rattle.gather.specs.GatherSteps.{if_used}
use Rattle.table.proofs.Flags.{flag_at, unused, used}
use Rattle.gather.proofs.Collecting.{used_zero}
use Rattle.gather.proofs.multiplier.Goals as goal

pub returns-then-k-eq0 : goal.returns-then-k-eq0
returns-then-k-eq0 c =
    let a = c.args in
    used_zero (in_use a.shape.width a.shape.size (row a.shape.width a.shape.size a.c a.mem.now)) a.k (omega arith)

pub bounds-mem-at : goal.bounds-mem-at
bounds-mem-at c =
    let a = c.args in
    omega (arith, c.requires.0.room, row_fits a.shape.width (stride a.shape.width a.shape.size) a.c (omega arith))

pub returns-then-mem-at-eq0 : goal.returns-then-mem-at-eq0
returns-then-mem-at-eq0 c =
    let a = c.args in
    let at = c.row_offset-at in
    ap (λ t. if_used t a.k) (sym (unused a.shape.width a.shape.size (row a.shape.width a.shape.size a.c a.mem.now)
    (flag_at a.shape.width a.shape.size a.c a.mem.now
    ∙ ap (λ x. get_or a.mem.now (x + (a.shape.width + a.shape.size)) 0) (sym at.ensures.start) ∙ c.if-mem-at-eq0.true)))

pub returns : goal.returns
returns c =
    let a = c.args in
    let at = c.row_offset-at in
    ap (λ t. if_used t a.k) (sym (used a.shape.width a.shape.size (row a.shape.width a.shape.size a.c a.mem.now)
    (λ z. c.if-mem-at-eq0.false (ap (λ x. get_or a.mem.now (x + (a.shape.width + a.shape.size)) 0) at.ensures.start
    ∙ sym (flag_at a.shape.width a.shape.size a.c a.mem.now) ∙ z))))
