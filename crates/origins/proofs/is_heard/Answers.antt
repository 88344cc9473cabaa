-- `origins::is_heard` meets its contract.
use Rattle.std.specs.Prelude.{◌+◌}
use Rattle.words.specs.Words.{ap, get_or, ltb}
use Rattle.origins.proofs.is_heard.Goals as goal

pub returns : goal.returns
returns c =
    let a = c.args in
    ap (λ k. ltb 0 (get_or a.mem.now (k + a.r) 0)) c.row_offset.ensures.start
