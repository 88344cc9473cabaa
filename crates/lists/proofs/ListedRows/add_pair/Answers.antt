-- `lists::ListedRows::add_pair` meets its contract.
use Rattle.std.specs.Prelude.{◌+◌, ◌*◌}
use Rattle.words.specs.Words.{◌∙◌, ap, ap₂, List, ℕ}
use Rattle.rows.specs.Sums.{row_at}
use Rattle.lists.specs.Named.{digit_added, pair_added}
use Rattle.lists.proofs.ListedRows.add_pair.Goals as goal

pub returns : goal.returns
unfolding pair_added
returns c =
    let a = c.args in
    let s = a.self.now in
    let l = s.lists.now in
    let row = row_at s.rows.mem.now s.rows.first s.rows.stride 64 in
    let both = c.add_list.ensures in
    c.add_digit-2.ensures
    ∙ ap₂ (λ (b d : List ℕ). digit_added row l.names l.counts (3 * a.p) b d) both
    (c.add_digit.ensures ∙ ap (λ (b : List ℕ). digit_added row l.names l.counts (3 * a.p + 1) b a.acc.now) both)
