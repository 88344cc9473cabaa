-- `lists::Lists::list` meets its contract. The loop: the first t lists are made.
use Rattle.lists.proofs.Named.{ListedFirst}
use Rattle.lists.proofs.Lists.list.Given as goal

abbrev pub invariant-loop-t : goal.invariant-loop-t
invariant-loop-t l = ListedFirst l.cs l.self.names l.self.counts l.t
