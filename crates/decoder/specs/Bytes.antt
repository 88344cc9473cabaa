-- The field of bytes, GF(2^8), and symbols of `E` bytes over it.
-- Scheme 10 has all coefficients of it. Scheme 9 has the coefficients 0 and 1, whose sums and products are those of GF(2).
use Rattle.std.specs.Prelude.{◌≡◌, ◌%◌}
use Rattle.words.specs.Words.{ℕ, refl, ap, suc, zero, mod-lt, bit_xor, lit<}
use mathlib.Core.HLevel.{Σ_prop_path}
use Rattle.std.proofs.Math.Bridge.{le_prop}
use Rattle.std.proofs.Common.{suc-ne-zero}
use Rattle.field.specs.Gf256.{product}
use Rattle.field.specs.Powers.{inverse}
use Rattle.decoder.specs.Field.{Ops}
use Rattle.decoder.specs.Symbols.{symbols}
use Rattle.decoder.specs.Tuples.{Byte}

-- The byte of a number: the number itself where it is below 256, as are the sums, products and inverses of bytes.
abbrev pub byte : ℕ → Byte
byte n = (n % 256, mod-lt n (lit< tt))

-- Two bytes are the same where their numbers are, so a byte is zero where its number is.
pub byte_path : {a b : Byte} → a.0 ≡ b.0 → a ≡ b
byte_path p = Σ_prop_path (λ (k : ℕ). le_prop {n = suc k} {m = 256}) p

abbrev number-zero? : (n : ℕ) → Dec (n ≡ 0)
number-zero? zero = yes refl
number-zero? (suc n) = no (suc-ne-zero n)

abbrev byte-zero? : (b : Byte) → Dec (b.0 ≡ 0) → Dec (b ≡ byte 0)
byte-zero? b (yes p) = yes (byte_path p)
byte-zero? b (no p) = no (λ e. p (ap (λ t. t.0) e))

-- The sum and the product in GF(2^8).
abbrev pub byte-sum : Byte → Byte → Byte
byte-sum a b = byte (bit_xor a.0 b.0)

abbrev pub byte-product : Byte → Byte → Byte
byte-product a b = byte (product a.0 b.0)

-- Coefficients and symbols of one byte.
abbrev pub bytes : Ops
bytes = record {
  K = Byte;
  Sym = Byte;
  𝟘 = byte 0;
  𝟙 = byte 1;
  ◌+◌ = byte-sum;
  ◌*◌ = byte-product;
  inv = λ a. byte (inverse a.0);
  zero? = λ a. byte-zero? a (number-zero? a.0);
  null = byte 0;
  ◌⊕◌ = byte-sum;
  ◌•◌ = byte-product;
  null? = λ a. byte-zero? a (number-zero? a.0);
}

-- Coefficients of one byte, and symbols of `E`.
abbrev pub Coded : ℕ → Ops
Coded E = symbols bytes E
