-- `replay::finish` meets its contract.
use Rattle.words.specs.Words.{rules}
use Rattle.replay.proofs.Finishing.{finished}
use Rattle.replay.proofs.finish.Goals as goal

pub returns : goal.returns
returns c = finished _ _ _ _ _ _ _ _ (search rules) c.end_unended-ended.ensures c.put_last.ensures
