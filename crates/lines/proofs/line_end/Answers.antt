-- `lines::line_end` meets its contract.
use Rattle.lines.proofs.Breaks.{ends_at, ends_after}
use Rattle.lines.proofs.Numbers.{rest_is}
use Rattle.lines.proofs.line_end.Goals as goal

pub returns : goal.returns
returns c =
    let p = c.passed_over-passed in
    rw (c.unwrap_or.ensures, c.first_end.ensures)
    (ends_after c.args.input.now _ p.result _ (rest_is p.result c.args.input.now) p.ensures.0 p.ensures.1 (ends_at _))
