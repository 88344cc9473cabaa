-- `sums::add_rows` meets its contract. The loop: the first k rows have been added.
use Rattle.std.specs.Prelude.{◌≡◌}
use Rattle.words.specs.Words.{length}
use Rattle.rows.specs.Sums.{combined, row_at}
use Rattle.rows.specs.Combination.{coefficient}
use Rattle.sums.proofs.add_rows.Given as goal

abbrev pub invariant-loop-k : goal.invariant-loop-k
invariant-loop-k l =
    (l.dst ≡ combined (coefficient l.cs) (row_at l.mem l.a l.s (length l.initial.dst)) l.k l.initial.dst) × (length l.dst ≡ length l.initial.dst)
