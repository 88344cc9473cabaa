-- `field::Gf256::inverse` meets its contract: the inverse of 2^e is 2^(255 - e).
use Rattle.std.specs.Prelude.{◌≡◌}
use Rattle.words.specs.Words.{◌∙◌, sym, rules}
use Rattle.field.proofs.Laws.{inverse_by_logarithm, inverse-zero}
use Rattle.field.proofs.Gf256.inverse.Goals as goal

pub returns-then-eq : goal.returns-then-eq
returns-then-eq c =
    let e : c.args.self.0 ≡ 0 = search rules in
    rw e (sym inverse-zero)

pub returns : goal.returns
returns c = c.power.ensures ∙ inverse_by_logarithm _ _ c.logarithm.ensures
