-- `interpolation::Repair::fill` meets its contract. The loop's invariant: c is the coefficient before i, and those before i are filled in.
use Rattle.std.specs.Prelude.{◌≡◌, ◌+◌, ◌-◌}
use Rattle.words.specs.Words.{subst, ℕ, arith, length-set}
use Rattle.interpolation.specs.Lagrange.{lagrange}
use Rattle.interpolation.proofs.Filling.{Filled, filled_more, filled_all}
use Rattle.interpolation.proofs.Repair.fill.Goals as goal

pub loop-i-init : goal.loop-i-init
loop-i-init c =
    (c.first-c.ensures, filled_more _ _ c.args.out.now 0 _ (omega arith) c.first-c.ensures (λ m h. absurd (omega arith)))

pub loop-i-preserved : goal.loop-i-preserved
loop-i-preserved c =
    let t = c.loop-i in
    let r = c.args.self in
    let e : t.i - 1 + 1 ≡ t.i = omega arith in
    let f : t.i + 1 - 1 ≡ t.i = omega arith in
    let n : c.next-c.result.0 ≡ lagrange r.k t.i r.esi = rw e at c.next-c.ensures in
    (rw f n, filled_more r.k r.esi t.out t.i c.next-c.result.0 (omega (arith, length-set {A = ℕ})) n t.invariant.1)

pub returns : goal.returns
returns c =
    let r = c.args.self in
    let t = c.loop-i in
    let e : t.i ≡ r.k = omega arith in
    filled_all r.k r.esi t.out (omega (arith, length-set {A = ℕ})) (subst (λ (n : ℕ). Filled r.k r.esi t.out n) e t.invariant.1)
