-- `buckets::fill` meets its contract. The loop: the first k rows are in the buckets.
use Rattle.std.specs.Prelude.{◌≡◌, ◌%◌, ◌/◌, ◌+◌, ◌<◌}
use Rattle.words.specs.Words.{ap, arith, ◌∙◌, length, mod-lt, set}
use Rattle.memory.proofs.Parts.{length_part}
use Rattle.memory.proofs.Number.{bytes-part}
use Rattle.memory.specs.Number.{Bytes}
use Rattle.rows.specs.Combination.{coefficient}
use Rattle.rows.specs.Sums.{row_at}
use Rattle.rows.proofs.Sums.{length_add_scaled}
use Rattle.buckets.proofs.Filling.{filled_none, filled_turn, strips_none, strips_set}
use Rattle.buckets.proofs.fill.Goals as goal

pub loop-k-init : goal.loop-k-init
loop-k-init c =
    let a = c.args in
    let r = a.rows in
    let h = c.requires.0 in
    (strips_none h, filled_none a.cs.now r.mem.now r.first r.stride a.buckets.now h)

pub loop-k-preserved : goal.loop-k-preserved
unfolding row_at
loop-k-preserved c =
    let a = c.args in
    let r = a.rows in
    let t = c.loop-k in
    let old = t.invariant.0 in
    let strip = c.strip-strip.result.now in
    let n = coefficient a.cs.now t.k in
    let byte = (c.type_inv.cs t.k).fits in
    let low : n % 16 < 32 = omega (arith, mod-lt n (let z : 0 < 16 = omega arith in z)) in
    let high : 16 + n / 16 < 32 = omega arith in
    let fits = r.fits t.k (omega (arith, c.requires.1)) in
    let size : length strip ≡ 64 = ap length c.strip-strip.ensures.0 ∙ length_part _ 64 r.mem.now fits in
    let bytes : Bytes strip = λ i. rw c.strip-strip.ensures.0 (bytes-part _ 64 r.mem.now r.bytes i) in
    let mid = strips_set (n % 16) c.add_strip.new.acc old low (ap length c.add_strip.ensures ∙ length_add_scaled _ _ _ ∙ old.size (n % 16) low) in
    let new = strips_set (16 + n / 16) c.add_strip-in-loop-k.new.acc mid high
    (ap length c.add_strip-in-loop-k.ensures ∙ length_add_scaled _ _ _ ∙ mid.size (16 + n / 16) high) in (
      new,
      filled_turn a.cs.now r.mem.now r.first r.stride t.k strip (λ i. (c.type_inv.cs i).fits) bytes size old mid c.strip-strip.ensures.0 t.invariant.1
          (ap (set t.buckets (n % 16)) c.add_strip.ensures) (ap (set _ (16 + n / 16)) c.add_strip-in-loop-k.ensures),
    )

pub returns : goal.returns
returns c = let e : c.loop-k.k ≡ length c.args.cs.now = omega arith in (c.loop-k.invariant.0, rw e at c.loop-k.invariant.1)
