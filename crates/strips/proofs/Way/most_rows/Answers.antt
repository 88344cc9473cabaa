-- `strips::Way::most_rows` meets its contract.
use Rattle.words.specs.Words.{refl, ⊎_elim}
use Rattle.strips.specs.Ways.{most_rows}
use Rattle.strips.proofs.Way.most_rows.Goals as goal

pub returns-in-Lists : goal.returns-in-Lists
unfolding most_rows
returns-in-Lists c = rw c.in-Lists.is

pub returns-in-Buckets : goal.returns-in-Buckets
unfolding most_rows
returns-in-Buckets c = ⊎_elim (λ e. rw e refl) (λ e. rw e refl) c.in-Buckets.is
