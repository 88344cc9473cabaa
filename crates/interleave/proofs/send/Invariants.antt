-- `interleave::send` meets its contract: at each symbol a turn of `Sending`.
use Rattle.std.specs.Prelude.{◌+◌, ◌*◌}
use Rattle.interleave.proofs.Sending.{Sending}
use Rattle.interleave.proofs.send.Given as goal

abbrev pub invariant-loop-column : goal.invariant-loop-column
invariant-loop-column l = Sending l.size l.rows l.columns l.src l.initial.out l.out (l.column * l.rows + 0)

abbrev pub invariant-loop-row : goal.invariant-loop-row
invariant-loop-row l = Sending l.size l.rows l.columns l.src l.fn.out l.out (l.column * l.rows + l.row)
