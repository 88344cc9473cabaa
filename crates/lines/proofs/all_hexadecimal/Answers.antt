-- `lines::all_hexadecimal` meets its contract.
use Rattle.words.specs.Words.{arith, ◌∙◌, sym}
use Rattle.lines.proofs.Digits.{next_looked_at, all_looked_at}
use Rattle.lines.proofs.all_hexadecimal.Goals as goal

pub loop-b-preserved : goal.loop-b-preserved
loop-b-preserved c =
    let l = c.loop-b in
    rw c.is_hexadecimal-all.ensures (l.invariant ∙ next_looked_at c.args.digits.now l.b-index l.all (omega arith))

pub returns : goal.returns
returns c =
    let l = c.loop-b in
    sym (l.invariant ∙ all_looked_at c.args.digits.now l.b-index l.all (omega arith))
