-- `sums::add_blocks` meets its contract. The loop: the first k rows have been added.
use Rattle.std.specs.Prelude.{◌≡◌}
use Rattle.words.specs.Words.{refl, arith, length, rules}
use Rattle.memory.proofs.Parts.{cut, length_part}
use Rattle.rows.specs.Sums.{combined}
use Rattle.rows.proofs.Combinations.{block-added, block_fits}
use Rattle.sums.proofs.add_blocks.Goals as goal

pub loop-k-init : goal.loop-k-init
unfolding combined
loop-k-init c = (omega arith, refl, refl)

pub overflow_mul-k : goal.overflow_mul-k
overflow_mul-k c =
    let a = c.args in
    let fits = block_fits (length a.cs.now) a.s c.loop-k.k c.block-n.result (omega arith) in
    omega arith

pub overflow_add-a : goal.overflow_add-a
overflow_add-a c =
    let a = c.args in
    let fits = block_fits (length a.cs.now) a.s c.loop-k.k c.block-n.result (omega arith) in
    omega arith

pub add_rows-requires : goal.add_rows-requires
add_rows-requires c =
    let a = c.args in
    let t = c.loop-k in
    let n = c.block-n.result in
    let l = length_part t.k n a.cs.now (omega arith) in
    let fits = block_fits (length a.cs.now) a.s t.k n (omega arith) in
    rw (cut t.k n a.cs.now, l) (omega arith, omega arith, omega arith, omega arith)

pub loop-k-preserved : goal.loop-k-preserved
loop-k-preserved c =
    let a = c.args in
    let t = c.loop-k in
    let n = c.block-n.result in
    let r = c.add_rows in (
      search rules,
      block-added a.cs.now a.mem.now a.a a.s t.k n a.dst.now t.dst r.new.dst (omega arith) t.invariant.1 t.invariant.2
          (rw (cut t.k n a.cs.now) at r.ensures),
      search rules,
    )

pub returns : goal.returns
returns c =
    let e : c.loop-k.k ≡ length c.args.cs.now = omega arith in
    rw e at c.loop-k.invariant.1
