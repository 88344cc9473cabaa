-- `sums::add_rows` meets its contract. The loop: the first k rows have been added.
use Rattle.std.specs.Prelude.{◌≡◌}
use Rattle.words.specs.Words.{arith, length, rules}
use Rattle.memory.proofs.Parts.{row_fits}
use Rattle.rows.specs.Sums.{combined}
use Rattle.rows.specs.Combination.{coefficient}
use Rattle.rows.proofs.Combinations.{row-added}
use Rattle.sums.proofs.add_rows.Goals as goal

pub loop-k-init : goal.loop-k-init
unfolding combined
loop-k-init c = search rules

pub add_row-requires : goal.add_row-requires
add_row-requires c =
    let a = c.args in
    let fits = row_fits (length a.cs.now) a.s c.loop-k.k (omega arith) in
    (search rules, omega arith)

pub loop-k-preserved : goal.loop-k-preserved
loop-k-preserved c =
    let a = c.args in
    let t = c.loop-k in
    let row = c.add_row in (
      row-added (coefficient a.cs.now) a.mem.now a.a a.s t.k a.dst.now t.dst _ t.invariant.0 t.invariant.1 row.ensures,
      search rules,
    )

pub returns : goal.returns
returns c =
    let e : c.loop-k.k ≡ length c.args.cs.now = omega arith in
    rw e at c.loop-k.invariant.0
