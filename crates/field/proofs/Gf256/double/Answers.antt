-- `field::Gf256::double` meets its contract: x times the polynomial, less the modulus if that reaches degree 8.
use Rattle.std.specs.Prelude.{◌%◌, ◌*◌}
use Rattle.words.specs.Words.{◌∙◌, ap, bit_xor, rules}
use Rattle.field.proofs.Linear.{twice}
use Rattle.field.proofs.Gf256.double.Goals as goal

pub returns : goal.returns
returns c =
    let x = c.args.self.0 in
    ap (bit_xor (x % 128 * 2)) c.if_odd.ensures ∙ twice x (search rules)
