-- `lists::ListedRows::add_list` meets its contract. The loop: the rows of the first elements of the list have been added.
use Rattle.std.specs.Prelude.{◌≡◌}
use Rattle.rows.specs.Sums.{row_at}
use Rattle.lists.specs.Named.{added, list_of}
use Rattle.lists.proofs.ListedRows.add_list.Given as goal

abbrev pub invariant-loop-k : goal.invariant-loop-k
invariant-loop-k l =
    l.acc ≡ added (row_at l.self.rows.mem.now l.self.rows.first l.self.rows.stride 64) (list_of l.self.lists.now.names l.t) l.k-index l.initial.acc
