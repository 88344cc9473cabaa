-- `lists::ListedRows::add_list` meets its contract. The loop: the rows of the first elements of the list have been added.
use Rattle.std.specs.Prelude.{◌<◌}
use Rattle.words.specs.Words.{◌∙◌, ap, arith, get_or, get_or-take, length-take, refl}
use Rattle.rows.specs.Rows.{add_scaled}
use Rattle.rows.specs.Sums.{row_at}
use Rattle.lists.specs.Named.{added, list_of}
use Rattle.lists.proofs.Named.{added_turn}
use Rattle.lists.proofs.ListedRows.add_list.Goals as goal

pub loop-k-init : goal.loop-k-init
unfolding added
loop-k-init c = refl

pub loop-k-preserved : goal.loop-k-preserved
unfolding row_at
loop-k-preserved c =
    let a = c.args in
    let r = a.self.now.rows in
    let t = c.loop-k in
    let n = get_or a.self.now.lists.now.counts a.t 0 in
    let list = list_of a.self.now.lists.now.names a.t in
    let few : t.k-index < n = omega (arith, length-take n list) in
    added_turn r.mem.now r.first r.stride 64 list t.k-index a.acc.now t.acc _ t.invariant
    (c.add_strip.ensures ∙ ap (add_scaled 1 t.acc) (rw (get_or-take n list t.k-index 0 few) at c.strip.ensures.0))
