-- `strips::Plan::fill` meets its contract.
use Rattle.std.specs.Prelude.{◌≤◌, ◌+◌, ◌*◌, ◌<◌}
use Rattle.words.specs.Words.{arith, length, ℕ}
use Rattle.buckets.proofs.Filling.{strips_none}
use Rattle.buckets.proofs.Sorting.{sorted_filled, sorted_ordered}
use Rattle.strips.proofs.Ways.{most_few, rows_sorted}
use Rattle.strips.proofs.Plan.fill.Goals as goal

pub fill-requires : goal.fill-requires
fill-requires c =
    let r = c.requires in
    let few = most_few c.args.self.now.way in
    (strips_none r.2, rw r.1 (sorted_ordered (rows_sorted c.in-SortedBuckets.is r.0) (omega (arith, r.0.few))))

pub returns-in-SortedBuckets : goal.returns-in-SortedBuckets
returns-in-SortedBuckets c =
    let s = c.args.self.now in
    let r = c.args.rows in
    let p = c.requires in
    let n = p.1 in
    let f = c.fill in
    let fits : (k : ℕ) → k < length s.cs.now → r.first + k * r.stride + 64 ≤ length r.mem.now = λ k g. r.fits k (omega arith) in
    (f.ensures.0, sorted_filled r.mem.now r.first r.stride f.new.buckets (rows_sorted c.in-SortedBuckets.is p.0) p.0.bytes r.bytes fits f.ensures.1)
