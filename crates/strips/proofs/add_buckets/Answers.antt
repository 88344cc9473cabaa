-- `strips::add_buckets` meets its contract.
use Rattle.words.specs.Words.{arith}
use Rattle.lists.proofs.Named.{listed_naming}
use Rattle.buckets.proofs.Filling.{length-weights}
use Rattle.buckets.specs.Buckets.{weights}
use Rattle.strips.proofs.add_buckets.Goals as goal

pub invariant_of-add_sum : goal.invariant_of-add_sum
invariant_of-add_sum c =
    let l = c.args.lists.now in
    let few = length-weights in
    record {
      most = c.requires.1.most;
      named = rw length-weights at (listed_naming weights l.names l.counts l.pairs c.requires.1 (omega arith));
    }
