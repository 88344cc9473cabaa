-- `strips::prepare` meets its contract.
use Rattle.std.specs.Prelude.{◌≤◌}
use Rattle.words.specs.Words.{subst, arith, length}
use Rattle.buckets.specs.Buckets.{weights}
use Rattle.strips.specs.Ways.{most_rows}
use Rattle.strips.proofs.Ways.{most_few, ready_lists, ready_buckets, ready_sorted}
use Rattle.strips.proofs.prepare.Goals as goal

pub list-requires : goal.list-requires
unfolding most_rows
list-requires c = (c.requires.0, subst (λ w. length c.args.cs.now ≤ most_rows w) c.in-Lists.is c.requires.1)

pub sort-requires : goal.sort-requires
sort-requires c = omega (arith, c.requires.1, most_few c.args.way)

pub returns-in-Lists : goal.returns-in-Lists
returns-in-Lists c =
    rw c.in-Lists.is
    (ready_lists c.list.ensures (subst (λ w. length c.args.cs.now ≤ most_rows w) c.in-Lists.is c.requires.1) (λ i. (c.type_inv.cs i).fits))

pub returns-in-Buckets : goal.returns-in-Buckets
unfolding weights
returns-in-Buckets c =
    rw c.in-Buckets.is
    (ready_buckets c.list-in-Buckets.ensures (subst (λ w. length c.args.cs.now ≤ most_rows w) c.in-Buckets.is c.requires.1) (λ i. (c.type_inv.cs i).fits))

pub returns-in-SortedBuckets : goal.returns-in-SortedBuckets
unfolding weights
returns-in-SortedBuckets c =
    rw c.in-SortedBuckets.is
    (ready_sorted c.list-in-SortedBuckets.ensures c.sort.ensures
    (subst (λ w. length c.args.cs.now ≤ most_rows w) c.in-SortedBuckets.is c.requires.1) (λ i. (c.type_inv.cs i).fits))
