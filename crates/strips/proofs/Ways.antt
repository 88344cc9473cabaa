-- Laws of the ways in which a strip is summed.
use Rattle.std.specs.Prelude.{◌≡◌, ◌<◌, ◌≤◌, ◌⊎◌}
use Rattle.words.specs.Words.{sym, subst, refl, arith, List, length, true≢false, ℕ, inl, inr}
use Rattle.memory.specs.Number.{Bytes}
use Rattle.lists.specs.Named.{ListedPairs}
use Rattle.lists.specs.declared.Lists.{Lists as RowLists}
use Rattle.buckets.specs.Buckets.{weights}
use Rattle.buckets.specs.Sorted.{SortedHalves}
use Rattle.buckets.specs.declared.sorted.Orders.{Orders}
use Rattle.strips.specs.Ways.{listed_for, most_rows, sorts, Ready}
use Rattle.strips.specs.declared.Way.{Way}
use Rattle.strips.specs.declared.Way.TheVariants.{Lists, Buckets, SortedBuckets}

-- not all rows at once
pub most_few : (way : Way) → most_rows way ≤ 255
unfolding most_rows
most_few Lists = omega arith
most_few Buckets = omega arith
most_few SortedBuckets = omega arith

-- and some
pub most_some : (way : Way) → 0 < most_rows way
unfolding most_rows
most_some Lists = omega arith
most_some Buckets = omega arith
most_some SortedBuckets = omega arith

-- all is ready
module _ {cs : List ℕ} {l : RowLists} {o : Orders} where
  pub ready_lists : ListedPairs cs l.names l.counts l.pairs → length cs ≤ most_rows Lists → Bytes cs → Ready Lists cs l o
  unfolding listed_for sorts
  ready_lists h few b = record { listed = h; sorted = λ e. absurd (true≢false (sym e)); few = few; bytes = b }

  pub ready_buckets : ListedPairs weights l.names l.counts l.pairs → length cs ≤ most_rows Buckets → Bytes cs → Ready Buckets cs l o
  unfolding listed_for sorts
  ready_buckets h few b = record { listed = h; sorted = λ e. absurd (true≢false (sym e)); few = few; bytes = b }

  pub ready_sorted : ListedPairs weights l.names l.counts l.pairs → SortedHalves cs o → length cs ≤ most_rows SortedBuckets → Bytes cs
      → Ready SortedBuckets cs l o
  unfolding listed_for
  ready_sorted h s few b = record { listed = h; sorted = λ e. s; few = few; bytes = b }

  -- what is ready, by the way
  pub own_listed : {way : Way} → way ≡ Lists → Ready way cs l o → ListedPairs cs l.names l.counts l.pairs
  unfolding listed_for
  own_listed e h = (subst (λ w. Ready w cs l o) e h).listed

  pub own_few : {way : Way} → way ≡ Lists → Ready way cs l o → length cs ≤ 64
  unfolding most_rows
  own_few e h = (subst (λ w. Ready w cs l o) e h).few

  pub weights_listed : {way : Way} → (way ≡ Buckets) ⊎ (way ≡ SortedBuckets) → Ready way cs l o → ListedPairs weights l.names l.counts l.pairs
  unfolding listed_for
  weights_listed (inl e) h = (subst (λ w. Ready w cs l o) e h).listed
  weights_listed (inr e) h = (subst (λ w. Ready w cs l o) e h).listed

  pub rows_sorted : {way : Way} → way ≡ SortedBuckets → Ready way cs l o → SortedHalves cs o
  unfolding sorts
  rows_sorted e h = (subst (λ w. Ready w cs l o) e h).sorted refl
