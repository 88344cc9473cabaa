-- `table::or_all` meets its contract. The loop: x is zero just where every byte so far is.
use Rattle.std.specs.Prelude.{◌≡◌, ◌+◌, ◌↔◌}
use Rattle.table.specs.RowSteps.{ZeroFrom}
use Rattle.table.proofs.or_all.Given as goal

abbrev pub invariant-loop-byte : goal.invariant-loop-byte
invariant-loop-byte l = (l.x ≡ 0) ↔ ZeroFrom l.from (l.from + l.byte-index) l.bytes
