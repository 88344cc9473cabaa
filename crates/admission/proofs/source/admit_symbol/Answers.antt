-- `admission::source::admit_symbol` meets its contract.
use Rattle.words.specs.Words.{arith}
use Rattle.admission.proofs.Gathering.{works_stored}
use Rattle.admission.proofs.Sourcing.{length_symbol, symbol_admitted}
use Rattle.admission.proofs.source.admit_symbol.Goals as goal

pub admit_equation-requires : goal.admit_equation-requires
admit_equation-requires c =
    let a = c.args in
    let p = c.requires in (
      p.0,
      works_stored _ _ a.kept _ _ _ p.1 (length_symbol a.flow _ _ a.i (omega (arith, p.1.some_symbol)) p.5)
          c.write_row.ensures,
      p.2,
      c.row_after-row.ensures.small,
      omega
          (arith, p.1.some_width),
    )

pub returns : goal.returns
returns c =
    let a = c.args in
    let p = c.requires in
    let row = c.row_after-row in
    let written = c.write_row in
    let admitted = c.admit_equation in
    symbol_admitted a.location a.kept a.flow a.i row.result a.adu.now a.mem.now a.work.now written.new.work
    admitted.new.work admitted.result p.1 p.5 row.ensures written.ensures admitted.ensures
