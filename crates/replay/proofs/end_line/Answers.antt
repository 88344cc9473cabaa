-- `replay::end_line` meets its contract.
use Rattle.words.specs.Words.{arith, refl}
use Rattle.replay.proofs.Ending.{line-opening, line_working, line_closed}
use Rattle.replay.proofs.end_line.Goals as goal

pub returns-in-Opening : goal.returns-in-Opening
returns-in-Opening c = line-opening _ _ _ _ _ _ _ (omega arith) c.in-Opening.is c.end_first.ensures

pub returns-in-Working : goal.returns-in-Working
returns-in-Working c = line_working _ _ _ _ _ _ _ _ c.in-Working.is c.end_packet.ensures

pub returns-in-Closed : goal.returns-in-Closed
returns-in-Closed c = line_closed _ _ _ _ _ _ (omega arith) c.in-Closed.is refl
