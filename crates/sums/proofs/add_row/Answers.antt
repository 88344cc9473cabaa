-- `sums::add_row` meets its contract.
use Rattle.std.specs.Prelude.{◌≡◌, ◌+◌, ◌*◌}
use Rattle.words.specs.Words.{sym, length, arith}
use Rattle.memory.proofs.Parts.{cut}
use Rattle.rows.proofs.Sums.{add_scaled_zero}
use Rattle.rows.specs.Sums.{row_at}
use Rattle.sums.proofs.add_row.Goals as goal

pub returns-then-c-eq0 : goal.returns-then-c-eq0
returns-then-c-eq0 c =
    let a = c.args in
    let e : a.c.0 ≡ 0 = omega arith in
    rw e (sym (add_scaled_zero a.dst.now (row_at a.mem.now a.a a.s (length a.dst.now) a.k)))

pub returns-then-c-eq1 : goal.returns-then-c-eq1
unfolding row_at
returns-then-c-eq1 c =
    let a = c.args in
    let e : a.c.0 ≡ 1 = omega arith in
    rw e (rw (cut (a.a + a.k * a.s) (length a.dst.now) a.mem.now) at c.add.ensures)

pub returns : goal.returns
unfolding row_at
returns c =
    let a = c.args in
    rw (cut (a.a + a.k * a.s) (length a.dst.now) a.mem.now) at c.add_scaled.ensures
