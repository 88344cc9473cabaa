-- `sender::repair::repair_symbols` meets its contract.
use Rattle.std.specs.Prelude.{◌≡◌, ◌≤◌, ◌-◌}
use Rattle.words.specs.Words.{length}
use Rattle.sender.specs.Inner.{symbols_from}
use Rattle.sender.proofs.Combining.{Carried}
use Rattle.sender.proofs.repair.repair_symbols.Given as goal

abbrev pub invariant-loop-i : goal.invariant-loop-i
invariant-loop-i l =
    (l.i ≤ l.count) × (length l.out ≡ length l.initial.out) × Carried (symbols_from l.header l.mem l.count l.lists) l.size l.initial.out l.i l.out

abbrev pub decreases-loop-i : goal.decreases-loop-i
decreases-loop-i l = l.count - l.i
