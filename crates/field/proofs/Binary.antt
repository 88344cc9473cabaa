-- The coefficients of scheme 9, which are 0 and 1: GF(2) is the part {0, 1} of GF(2^8), so one arithmetic serves both schemes. That 0 times a
-- byte is 0 and 1 times a byte is the byte is `product-zero` and `product-one` of `Laws`.
use Rattle.std.specs.Prelude.{◌≡◌, ◌<◌, ◌*◌}
use Rattle.words.specs.Words.{arith, ℕ, refl, ◌∙◌, sym, zero-mul, one-mul}
use lib.Bits.{bit_and}
use Rattle.field.specs.Gf256.{product}
use Rattle.field.proofs.Xor.{binary}
use Rattle.field.proofs.Laws.{product-zero, product-one}

-- the product of two coefficients is their AND, the product of GF(2)
pub product_binary : (c d : ℕ) → c < 2 → d < 2 → product c d ≡ bit_and c d
product_binary c d hc hd =
    binary (λ x. product x d ≡ bit_and x d) (product-zero d)
    (product-one d (omega arith) ∙ sym (binary (λ x. bit_and 1 x ≡ x) refl refl d hd)) c hc

-- a coefficient times a byte drops or keeps the whole byte: 0 or the byte
pub product_selects : (c b : ℕ) → c < 2 → b < 256 → product c b ≡ c * b
product_selects c b hc hb =
    binary (λ x. product x b ≡ x * b) (product-zero b ∙ sym (zero-mul b)) (product-one b hb ∙ sym (one-mul b)) c hc
