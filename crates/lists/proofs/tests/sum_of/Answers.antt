-- In the test, the lists of the rows name rows.
use Rattle.lists.proofs.Named.{listed_naming}
use Rattle.lists.proofs.tests.sum_of.Goals as goal

pub invariant_of-sum : goal.invariant_of-sum
invariant_of-sum c =
    let l = c.list.new.self in
    record { most = c.list.ensures.most; named = listed_naming c.args.cs.now l.names l.counts l.pairs c.list.ensures c.requires.0 }
