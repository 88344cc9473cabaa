-- `lists::ListedRows::sum` meets its contract: what is added to zeros.
use Rattle.words.specs.Words.{◌∙◌}
use Rattle.rows.specs.Sums.{row_at}
use Rattle.lists.proofs.FromZeros.{pairs_from_zeros}
use Rattle.lists.proofs.ListedRows.sum.Goals as goal

pub returns : goal.returns
returns c =
    let s = c.args.self.now in
    let l = s.lists.now in
    c.add_sum.ensures ∙ (pairs_from_zeros (row_at s.rows.mem.now s.rows.first s.rows.stride 64) l.names l.counts l.pairs l.pairs).same
