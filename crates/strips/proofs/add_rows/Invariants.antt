-- `strips::add_rows` meets its contract. The loop: the first i strips are those of the sum.
use Rattle.std.specs.Prelude.{◌≡◌, ◌*◌}
use Rattle.words.specs.Words.{length}
use Rattle.rows.specs.Sums.{rows_added}
use Rattle.strips.proofs.Cutting.{done}
use Rattle.strips.proofs.add_rows.Given as goal

abbrev pub invariant-loop-i : goal.invariant-loop-i
invariant-loop-i l =
    (l.dst ≡ done (rows_added l.cs l.mem l.a l.s (length l.initial.dst) l.initial.dst) l.initial.dst (l.i * 64)) × (length l.dst ≡ length l.initial.dst)
