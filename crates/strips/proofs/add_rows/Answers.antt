-- `strips::add_rows` meets its contract. The loop: the first i strips are those of the sum.
use Rattle.std.specs.Prelude.{◌≡◌, ◌+◌, ◌-◌, ◌*◌, ◌%◌}
use Rattle.words.specs.Words.{refl, sym, ap, ap₂, ◌∙◌, arith, length, rules}
use Rattle.memory.specs.Part.{part}
use Rattle.memory.proofs.Parts.{cut, put}
use Rattle.rows.specs.Rows.{add_scaled}
use Rattle.rows.specs.Combination.{coefficient}
use Rattle.rows.specs.Sums.{row_at, rows_added}
use Rattle.rows.proofs.Combinations.{length-combined}
use Rattle.strips.proofs.Cutting.{done, done_none, done_all, strip_whole, strip_rest}
use Rattle.strips.proofs.add_rows.Goals as goal

pub loop-i-init : goal.loop-i-init
loop-i-init c = (sym (done_none _ _), refl)

pub loop-i-preserved : goal.loop-i-preserved
loop-i-preserved c =
    let a = c.args in
    let m = a.mem.now in
    let t = c.loop-i in
    let d = a.dst.now in
    let at = t.i * 64 in
    let r = c.add_sum in
    let size = t.invariant.1 in
    let next : (t.i + 1) * 64 ≡ at + 64 = omega arith in (
      rw next
          (put at 64 r.new.strip t.dst (omega arith) r.auto.strip
          ∙ strip_whole a.cs.now m a.a a.s d t.dst r.new.strip at (omega arith) t.invariant.0
          (r.ensures ∙ ap (rows_added a.cs.now m (a.a + at) a.s 64) (cut at 64 t.dst))),
      search rules,
    )

pub returns-then-rest-eq0 : goal.returns-then-rest-eq0
returns-then-rest-eq0 c =
    let a = c.args in
    let d = a.dst.now in
    let t = c.loop-i in
    let e : t.i * 64 ≡ length d = omega arith in
    let row = row_at a.mem.now a.a a.s (length d) in
    let sum = rows_added a.cs.now a.mem.now a.a a.s (length d) d in
    t.invariant.0 ∙ ap (done sum d) e ∙ done_all sum d (length d) (length-combined row (coefficient a.cs.now) (length a.cs.now) d) refl

pub returns : goal.returns
returns c =
    let a = c.args in
    let t = c.loop-i in
    let d = a.dst.now in
    let w = length d % 64 in
    let at = length d - w in
    let r = c.add in
    let x = c.add_sum-2 in
    let size = t.invariant.1 in
    let here : t.i * 64 ≡ at = omega arith in
    let e : at + w ≡ length d = omega arith in
    let row = row_at a.mem.now a.a a.s (length d) in
    let sum = rows_added a.cs.now a.mem.now a.a a.s (length d) d in
    put at w r.new.dst t.dst (omega arith) r.auto.dst
    ∙ strip_rest a.cs.now a.mem.now a.a a.s d t.dst r.new.dst at (a.a + at - (64 - w)) w
    (λ i. (c.type_inv.cs i).fits) (omega arith) (omega (arith, c.requires.3)) (omega arith) (t.invariant.0 ∙ ap (done sum d) here)
    (r.ensures ∙ ap₂ (add_scaled 1) (cut at w t.dst) (cut (64 - w) w x.new.strip ∙ ap (part (64 - w) w) x.ensures))
    ∙ ap (done sum d) e ∙ done_all sum d (length d) (length-combined row (coefficient a.cs.now) (length a.cs.now) d) refl
