-- Contracts of inner functions: a reader need not believe these. The ways in which a strip is summed, and what each needs.
use Rattle.std.specs.Prelude.{◌≡◌, ◌≤◌}
use Rattle.words.specs.Words.{List, Bool, true, false, length, ℕ}
use Rattle.memory.specs.Number.{Bytes}
use Rattle.lists.specs.Named.{ListedPairs}
use Rattle.buckets.specs.Sorted.{SortedHalves}
use Rattle.buckets.specs.Buckets.{weights}
use Rattle.buckets.specs.declared.sorted.Orders.{Orders}
use Rattle.lists.specs.declared.Lists.{Lists as RowLists}
use Rattle.strips.specs.declared.Way.{Way}
use Rattle.strips.specs.declared.Way.TheVariants.{Lists, Buckets, SortedBuckets}

-- whether the rows are sorted
unfoldable pub sorts : Way → Bool
sorts Lists = false
sorts Buckets = false
sorts SortedBuckets = true

-- the coefficients whose pairs of digits are listed: the rows' own, or the weights of the buckets
unfoldable pub listed_for : Way → List ℕ → List ℕ
listed_for Lists cs = cs
listed_for Buckets cs = weights
listed_for SortedBuckets cs = weights

-- how many rows are summed at a time
unfoldable pub most_rows : Way → ℕ
most_rows Lists = 64
most_rows Buckets = 255
most_rows SortedBuckets = 255

-- all is ready for strips: the lists are made and, where it is needed, the orders
pub record Ready (way : Way) (cs : List ℕ) (l : RowLists) (o : Orders) : Type 0 where
  pub listed : ListedPairs (listed_for way cs) l.names l.counts l.pairs
  pub sorted : sorts way ≡ true → SortedHalves cs o
  pub few : length cs ≤ most_rows way
  pub bytes : Bytes cs
