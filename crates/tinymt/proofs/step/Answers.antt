-- `tinymt::step` meets its contract: the code computes the definition's own expressions.
use Rattle.std.specs.Prelude.{◌∷◌}
use Rattle.words.specs.Words.{ℕ, [], get_or, ap₂}
use Rattle.tinymt.specs.Generator.{step_q, step_y, step_of}
use Rattle.tinymt.proofs.step.Goals as goal

pub returns : goal.returns
unfolding step_q step_y step_of
returns c =
    let s = c.args.s in
    ap₂ (λ (a b : ℕ). get_or s 1 0 ∷ a ∷ b ∷ step_y s ∷ []) c.xor_if_odd.ensures c.xor_if_odd-2.ensures
