-- `sender::front::memory_size` meets its contract.
use Rattle.words.specs.Words.{refl}
use Rattle.sender.specs.State.{header_size}
use Rattle.sender.proofs.front.memory_size.Goals as goal

pub returns : goal.returns
unfolding header_size
returns c = refl
