-- `replay::begin` meets its contract.
use Rattle.words.specs.Words.{arith, refl}
use Rattle.records.specs.Records.{total}
use Rattle.answering.proofs.Keeping.{kept_none}
use Rattle.replay.proofs.begin.Goals as goal

pub returns : goal.returns
unfolding total
returns c = λ line m. record {
  stands = (refl, record { lines = refl; accepts = refl; refuses = refl; knows = refl; few = omega arith; small = omega arith });
  kept = kept_none line;
}
