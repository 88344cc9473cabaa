-- `flows::all` meets its contract.
use Rattle.words.specs.Words.{refl}
use Rattle.flows.proofs.Bits.{all_announced}
use Rattle.flows.proofs.all.Goals as goal

pub returns : goal.returns
returns c = record { bytes = refl; each = all_announced }
