-- `lists::ListedRows::add_sum` meets its contract. The loop: the pairs from p on have been added.
use Rattle.std.specs.Prelude.{◌≡◌, ◌-◌}
use Rattle.words.specs.Words.{replicate}
use Rattle.rows.specs.Sums.{row_at}
use Rattle.lists.specs.Named.{pairs_added}
use Rattle.lists.proofs.ListedRows.add_sum.Given as goal

abbrev pub invariant-loop-p : goal.invariant-loop-p
invariant-loop-p l =
    let s = l.self in
    let n = s.lists.now.pairs in
    l.acc ≡ pairs_added (row_at s.rows.mem.now s.rows.first s.rows.stride 64) s.lists.now.names s.lists.now.counts n (n - l.p) (replicate 64 0)
