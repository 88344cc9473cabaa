-- What holds of the history's definitions, in plain arithmetic on a packet's bytes.
use Rattle.history.specs.Checking.{ReadingChecked}
use Rattle.history.specs.Rising.{BaseRaised}

pub record HistoryLaws : Type 0 where
  pub checked : ReadingChecked
  pub raised : BaseRaised
