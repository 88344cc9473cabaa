-- `replay::end_first` meets its contract.
use Rattle.words.specs.Words.{refl}
use Rattle.replay.proofs.Ending.{first-opened, first_closed}
use Rattle.replay.proofs.end_first.Goals as goal

pub returns-then-open_by : goal.returns-then-open_by
returns-then-open_by c = first-opened _ _ _ _ _ _ c.open_by.ensures c.if-open_by.true refl

pub returns : goal.returns
returns c = first_closed _ _ _ _ _ _ c.open_by.ensures c.if-open_by.false refl
