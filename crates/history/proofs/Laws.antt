-- All laws of the history hold.
use Rattle.history.specs.Laws.{HistoryLaws}
use Rattle.history.proofs.Checking.{reading_checked}
use Rattle.history.proofs.Rising.{base_raised}

pub history_laws : HistoryLaws
history_laws = record { checked = reading_checked; raised = base_raised }
