-- `strips::Plan::add_sum` meets its contract.
use Rattle.std.specs.Prelude.{◌+◌, ◌*◌}
use Rattle.words.specs.Words.{arith}
use Rattle.memory.proofs.Parts.{length_part}
use Rattle.rows.specs.Sums.{row_at}
use Rattle.lists.proofs.Named.{listed_naming, pairs_sum}
use Rattle.buckets.proofs.Filling.{buckets_sum}
use Rattle.strips.proofs.Cutting.{sum_over}
use Rattle.strips.proofs.Ways.{own_few, own_listed, weights_listed}
use Rattle.strips.proofs.Plan.add_sum.Goals as goal

pub invariant_of-add_sum : goal.invariant_of-add_sum
invariant_of-add_sum c =
    let s = c.args.self.now in
    let l = s.lists.now in
    let h = own_listed c.in-Lists.is c.requires.1 in
    record {
      most = h.most;
      named = rw c.requires.2 (listed_naming s.cs.now l.names l.counts l.pairs h (own_few c.in-Lists.is c.requires.1));
    }

pub add_buckets-requires : goal.add_buckets-requires
add_buckets-requires c = (c.requires.0, weights_listed c.in-Buckets.is c.requires.1, c.fill.ensures.0)

pub returns-in-Lists : goal.returns-in-Lists
unfolding row_at
returns-in-Lists c =
    let s = c.args.self.now in
    let l = s.lists.now in
    let r = c.args.rows in
    let n = c.requires.2 in
    sum_over _ r.mem.now r.first r.stride _ c.requires.1.bytes c.requires.0 c.add_sum.ensures
    (pairs_sum (row_at r.mem.now r.first r.stride 64) s.cs.now l.names l.counts l.pairs
    (λ k g. omega (arith, length_part (r.first + k * r.stride) 64 r.mem.now (r.fits k (omega arith))))
    (own_listed c.in-Lists.is c.requires.1))

pub returns-in-Buckets : goal.returns-in-Buckets
returns-in-Buckets c =
    let s = c.args.self.now in
    let l = s.lists.now in
    let r = c.args.rows in
    let n = c.requires.2 in
    let f = c.fill.ensures in
    sum_over _ r.mem.now r.first r.stride _ c.requires.1.bytes c.requires.0 c.add_buckets.ensures
    (buckets_sum s.cs.now r.mem.now l.names l.counts l.pairs r.first r.stride (weights_listed c.in-Buckets.is c.requires.1) f.0
    (λ k g. r.fits k (omega arith)) f.1)
