-- `field::Gf256::product` meets its contract: 2^e times 2^f is 2^(e + f).
use Rattle.std.specs.Prelude.{◌≡◌}
use Rattle.words.specs.Words.{◌∙◌, sym, rules}
use Rattle.field.proofs.Laws.{product_by_logarithms, product-zero, product-zero_right}
use Rattle.field.proofs.Gf256.product.Goals as goal
use Rattle.field.proofs.Gf256.product.Goals.{then-eq-via-then-eq, then-eq-via-else-eq+then-eq-2}

pub returns-then-eq : goal.returns-then-eq
returns-then-eq c = elim c.then-eq.branch [
  | then-eq-via-then-eq w ↦ let e : c.args.self.0 ≡ 0 = search rules in rw e (sym (product-zero _))
  | then-eq-via-else-eq+then-eq-2 w ↦ let e : c.args.other.0 ≡ 0 = search rules in rw e (sym (product-zero_right _))
]

pub returns : goal.returns
returns c = c.power.ensures ∙ product_by_logarithms _ _ _ _ c.logarithm.ensures c.logarithm-2.ensures
