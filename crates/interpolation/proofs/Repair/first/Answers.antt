-- `interpolation::Repair::first` meets its contract. The loop's invariant: the factors before m are multiplied.
use Rattle.std.specs.Prelude.{◌≡◌}
use Rattle.words.specs.Words.{ap, ◌∙◌, ℕ, arith}
use Rattle.interpolation.specs.Lagrange.{lagrange}
use Rattle.interpolation.proofs.Neighbours.{first_one, first_more}
use Rattle.interpolation.proofs.Repair.first.Goals as goal

pub loop-m-init : goal.loop-m-init
loop-m-init c = first_one _

pub loop-m-preserved : goal.loop-m-preserved
loop-m-preserved c = let t = c.loop-m in cc (first_more t.m c.args.self.esi t.c.0 (omega arith) t.invariant)

pub returns : goal.returns
returns c =
    let e : c.loop-m.m ≡ c.args.self.k = omega arith in
    c.loop-m.invariant ∙ ap (λ (n : ℕ). lagrange n 0 c.args.self.esi) e
