-- `field::Multiples::times` meets its contract. The loop's invariant: what is summed, and the multiples that the digits left choose, are the product.
use Rattle.std.specs.Prelude.{◌<◌}
use Rattle.words.specs.Words.{arith, rules, ℕ, List, ap, ◌∙◌, get_or}
use Rattle.field.specs.Gf256.{product}
use Rattle.field.proofs.Linear.{chosen, chosen_product, chosen_more, chosen_all}
use Rattle.field.proofs.Multiples.times.Goals as goal

pub loop-m-init : goal.loop-m-init
loop-m-init c =
    let x = c.args.other.0 in
    let small : get_or c.self.inside.0 0 0 < 256 = search rules in
    ap (λ (l : List ℕ). chosen l x) c.self.invariant ∙ chosen_product 8 _ x small (omega arith) ∙ ap (λ (k : ℕ). product k x) c.self.view_is

pub loop-m-preserved : goal.loop-m-preserved
loop-m-preserved c =
    let t = c.loop-m in
    rw c.if_odd-sum.ensures (chosen_more _ t.m-index t.sum t.digits (omega arith) ∙ t.invariant)

pub returns : goal.returns
returns c =
    let t = c.loop-m in
    chosen_all _ t.m-index t.sum t.digits (omega arith) ∙ t.invariant
