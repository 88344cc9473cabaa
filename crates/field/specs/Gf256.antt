-- GF(2^8), as RFC 8681 has it: polynomials over GF(2) modulo x^8 + x^4 + x^3 + x^2 + 1.
-- A polynomial is the number whose binary digits are its coefficients, so the sum of two is `bit_xor` and `p * 2` is x times p.
use Rattle.std.specs.Prelude.{◌%◌, ◌*◌, ◌^◌, ◌/◌}
use Rattle.words.specs.Words.{ℕ, bit_xor}
use Rattle.field.specs.Digits.{fold_digits}

-- x^8 + x^4 + x^3 + x^2 + 1
abbrev pub modulus : ℕ
modulus = 285

-- The product of two polynomials: d b + x r, by Horner's rule.
unfoldable pub times : ℕ → ℕ → ℕ
times a b = fold_digits (λ d r. bit_xor (d * b) (r * 2)) a

-- The remainder of a polynomial of degree at most 8: less the modulus if its degree is 8.
unfoldable pub reduce : ℕ → ℕ
reduce p = bit_xor (p / 2 ^ 8 % 2 * modulus) p

-- The remainder of any polynomial: d + x r, reduced, by Horner's rule.
unfoldable pub remainder : ℕ → ℕ
unfolding reduce
remainder = fold_digits (λ d r. reduce (bit_xor d (r * 2)))

-- The product in GF(2^8).
unfoldable pub product : ℕ → ℕ → ℕ
unfolding times remainder
product a b = remainder (times a b)
