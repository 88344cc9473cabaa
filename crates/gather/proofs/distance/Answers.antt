-- `gather::distance` meets its contract.
use Rattle.std.specs.Prelude.{◌≡◌, ◌+◌, ◌-◌, ◌%◌}
use Rattle.words.specs.Words.{arith, rules, ◌∙◌, ap, mod-eq_of_lt, add-mod_right}
use Rattle.gather.proofs.distance.Goals as goal

pub returns-then-shape-c : goal.returns-then-shape-c
returns-then-shape-c c =
    let a = c.args in
    let e : a.shape.oldest + (a.c - a.shape.oldest) ≡ a.c = omega arith in
    (search rules, ap (λ k. k % a.shape.width) e ∙ mod-eq_of_lt (omega arith))

pub returns-else-shape-c : goal.returns-else-shape-c
returns-else-shape-c c =
    let a = c.args in
    let e : a.shape.oldest + (a.c + a.shape.width - a.shape.oldest) ≡ a.c + a.shape.width = omega arith in
    (search rules, ap (λ k. k % a.shape.width) e ∙ add-mod_right a.c a.shape.width ∙ mod-eq_of_lt (omega arith))
