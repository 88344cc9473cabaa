-- `lists::ListedRows::add_digit` meets its contract.
use Rattle.words.specs.Words.{◌∙◌, ap}
use Rattle.rows.specs.Rows.{add_scaled}
use Rattle.rows.specs.Sums.{row_at}
use Rattle.lists.specs.Named.{list_added}
use Rattle.lists.proofs.ListedRows.add_digit.Goals as goal

pub returns : goal.returns
returns c =
    let a = c.args in
    let s = a.self.now in
    c.add_list.ensures
    ∙ ap (list_added (row_at s.rows.mem.now s.rows.first s.rows.stride 64) s.lists.now.names s.lists.now.counts a.t)
    (c.add_strip.ensures ∙ ap (λ d. add_scaled 1 d a.both.now) c.double_strip.ensures)
