-- `lists::ListedRows::add_sum` meets its contract. The loop: the pairs from p on have been added.
use Rattle.std.specs.Prelude.{◌≡◌, ◌+◌, ◌-◌, ◌++◌}
use Rattle.words.specs.Words.{arith, refl, replicate, sym, ◌∙◌, ap, ap₂, length-take-le, take_all, append-nil}
use Rattle.std.proofs.lemmas.List.{drop_all}
use Rattle.rows.specs.Rows.{add_scaled}
use Rattle.rows.specs.Sums.{row_at}
use Rattle.lists.specs.Named.{pairs_added}
use Rattle.lists.proofs.Named.{pairs_turn}
use Rattle.lists.proofs.ListedRows.add_sum.Goals as goal

pub loop-p-init : goal.loop-p-init
unfolding pairs_added
loop-p-init c = let n = c.args.self.now.lists.now.pairs in let none : n - n ≡ 0 = omega arith in rw none refl

pub loop-p-preserved : goal.loop-p-preserved
loop-p-preserved c =
    let s = c.args.self.now in
    let l = s.lists.now in
    let n = l.pairs in
    let t = c.loop-p in
    let next : n - (t.p - 1) ≡ n - t.p + 1 = omega arith in
    let here : n - 1 - (n - t.p) ≡ t.p - 1 = omega arith in
    rw next (
    pairs_turn (row_at s.rows.mem.now s.rows.first s.rows.stride 64) l.names l.counts n (n - t.p) (replicate 64 0) t.acc _ t.invariant
    (rw here c.add_pair.ensures))

pub slice_bounds-add-end-2 : goal.slice_bounds-add-end-2
slice_bounds-add-end-2 c = sym (length-take-le 64 _ (omega (arith, c.requires)))

pub add-requires : goal.add-requires
add-requires c = omega (arith, length-take-le 64 c.args.dst.now (omega (arith, c.requires)))

pub returns : goal.returns
returns c =
    let s = c.args.self.now in
    let l = s.lists.now in
    let n = l.pairs in
    let d = c.args.dst.now in
    let t = c.loop-p in
    let sum = pairs_added (row_at s.rows.mem.now s.rows.first s.rows.stride 64) l.names l.counts n in
    let all : n - t.p ≡ n = omega (arith, c.loop-p-test.false) in
    ap₂ ◌++◌ (c.add.ensures ∙ ap₂ (add_scaled 1) (take_all 64 d (omega (arith, c.requires))) (t.invariant ∙ ap (λ k. sum k (replicate 64 0)) all)) (drop_all 64 d (omega (arith, c.requires)))
    ∙ append-nil _
