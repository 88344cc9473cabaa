-- `sender::window::place_symbols` meets its contract.
use Rattle.std.specs.Prelude.{◌≤◌, ◌-◌}
use Rattle.words.specs.Words.{take}
use Rattle.wire.specs.Packets.{source_symbols}
use Rattle.sender.specs.Inner.{Placed}
use Rattle.sender.proofs.window.place_symbols.Given as goal

abbrev pub invariant-loop-i : goal.invariant-loop-i
invariant-loop-i l = (l.i ≤ l.count) × Placed l.size l.width l.initial.mem l.first (take l.i (source_symbols l.flow l.adu l.size)) l.mem l.slot

abbrev pub decreases-loop-i : goal.decreases-loop-i
decreases-loop-i l = l.count - l.i
