-- `buckets::fill` meets its contract. The loop: the first k rows are in the buckets.
use Rattle.buckets.specs.Buckets.{Filled, Strips}
use Rattle.buckets.proofs.fill.Given as goal

abbrev pub invariant-loop-k : goal.invariant-loop-k
invariant-loop-k l = Strips 32 l.buckets × Filled l.cs l.k l.rows.mem.now l.rows.first l.rows.stride l.buckets
