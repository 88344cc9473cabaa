-- `admission::packet::admit_equation` meets its contract.
use Rattle.words.specs.Words.{arith, sym, subst}
use Rattle.table.proofs.Offsets.{flags_fit}
use Rattle.gather.proofs.Framing.{works_only}
use Rattle.admission.specs.Steps.{EquationAdmitted}
use Rattle.admission.proofs.Gathering.{equation_admitted}
use Rattle.admission.proofs.packet.admit_equation.Goals as goal

pub admit-verdict-requires : goal.admit-verdict-requires
admit-verdict-requires c =
    let s = c.args.location.shape in
    let p = c.requires in
    (p.0, works_only (omega (arith, flags_fit s.width s.size)) c.lay.ensures.only p.1, p.2, p.3, p.4)

pub returns : goal.returns
returns c =
    let a = c.args in
    let laid = c.lay in
    let admitted = c.admit-verdict in
    subst (λ r. EquationAdmitted a.location a.kept a.first a.coefficients.now r a.mem.now a.work.now admitted.new.work)
    (sym c.gathered_by.ensures)
    (equation_admitted a.location a.kept a.first a.coefficients.now admitted.result a.mem.now a.work.now laid.new.work
    admitted.new.work c.requires.1 laid.ensures admitted.ensures)
