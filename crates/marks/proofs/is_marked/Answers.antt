-- `marks::is_marked` meets its contract.
use Rattle.words.specs.Words.{ap, get_or, ltb}
use Rattle.marks.proofs.is_marked.Goals as goal

pub returns : goal.returns
returns c = let m = c.args.mem.now in ap (λ k. ltb 0 (get_or m k 0)) c.mark_at-at.ensures.0
