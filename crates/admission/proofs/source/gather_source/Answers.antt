-- `admission::source::gather_source` meets its contract.
use Rattle.words.specs.Words.{arith}
use Rattle.admission.proofs.Gathering.{gathers_none, gathers_on, gathers_stop, gathers_all}
use Rattle.admission.proofs.source.gather_source.Goals as goal

pub loop-i-init : goal.loop-i-init
loop-i-init c =
    let a = c.args in
    (omega arith, gathers_none a.location _ _ a.mem.now a.work.now c.requires.1)

pub returns-in_err-kept : goal.returns-in_err-kept
returns-in_err-kept c =
    let l = c.loop-i in
    let admitted = c.admit_symbol in
    rw c.from_residual.ensures
    (gathers_stop _ _ _ _ _ l.i _ l.kept admitted.result l.work admitted.new.work (omega arith) l.invariant.1 admitted.ensures
    c.in_err-kept.was)

pub loop-i-preserved : goal.loop-i-preserved
loop-i-preserved c =
    let l = c.loop-i in
    let admitted = c.admit_symbol in (
      omega arith,
      gathers_on _ _ _ _ _ l.i l.kept _ admitted.result l.work admitted.new.work l.invariant.1 admitted.ensures
          c.in_ok-kept.was,
    )

pub returns : goal.returns
returns c = let l = c.loop-i in gathers_all _ _ _ _ _ l.i _ l.kept l.work (omega arith) l.invariant.1
