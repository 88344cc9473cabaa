-- Bytes are a field, and symbols of at least one byte a space over it.
use Rattle.std.specs.Prelude.{◌≡◌, ◌<◌, ◌≢◌}
use Rattle.words.specs.Words.{arith, ℕ, ◌∙◌, sym, ap, suc, zero, ap₂, bit_xor, mod-eq_of_lt, xor_zero_r, xor_lt, xor_comm}
use native.Mathlib.Nat.{suc-ne-zero}
use lib.Bits.{xor_self}
use Rattle.field.specs.Gf256.{product}
use Rattle.field.specs.Powers.{inverse}
use Rattle.field.proofs.Xor.{xor_assoc}
use Rattle.field.proofs.Laws.{product_lt, product_comm, product_assoc, product-sum_right, product-zero_right, product-one, product-inverse, inverse-lt}
use Rattle.decoder.specs.Field.{Laws}
use Rattle.decoder.specs.Bytes.{byte, byte_path, byte-sum, byte-product, bytes, Coded}
use Rattle.decoder.specs.Tuples.{Byte}
use Rattle.decoder.proofs.Symbols.{symbols_laws}

-- A byte's number; sums and products are below 256.
pub byte-number : (n : ℕ) → n < 256 → (byte n).0 ≡ n
byte-number n l = mod-eq_of_lt l

pub byte_of : (b : Byte) → byte b.0 ≡ b
byte_of b = byte_path (byte-number b.0 b.1)

pub byte-sum-number : (a b : Byte) → (byte-sum a b).0 ≡ bit_xor a.0 b.0
byte-sum-number a b = byte-number _ (xor_lt 8 a.0 b.0 a.1 b.1)

pub byte-product-number : (a b : Byte) → (byte-product a b).0 ≡ product a.0 b.0
byte-product-number a b = byte-number _ (product_lt a.0 b.0)

pub byte-inverse : (E k : ℕ) → k < 256 → byte (inverse k) ≡ (Coded E).inv (byte k)
byte-inverse E k l = ap (λ n. byte (inverse n)) (sym (byte-number k l))

-- A byte is the zero of the field just where its number is zero.
pub byte-zero : (n : ℕ) → n ≡ 0 → byte n ≡ byte 0
byte-zero n z = ap byte z

pub byte_nonzero : (n : ℕ) → n < 256 → n ≢ 0 → byte n ≢ byte 0
byte_nonzero n l z e = z (sym (mod-eq_of_lt l) ∙ ap (λ t. t.0) e)

plus_comm : (a b : Byte) → byte-sum a b ≡ byte-sum b a
plus_comm a b = ap byte (xor_comm a.0 b.0)

plus_assoc : (a b c : Byte) → byte-sum (byte-sum a b) c ≡ byte-sum a (byte-sum b c)
plus_assoc a b c =
    ap byte (ap (λ n. bit_xor n c.0) (byte-sum-number a b) ∙ xor_assoc a.0 b.0 c.0 ∙ ap (bit_xor a.0) (sym (byte-sum-number b c)))

plus_zero : (a : Byte) → byte-sum a (byte 0) ≡ a
plus_zero a = ap byte (xor_zero_r a.0) ∙ byte_of a

plus_self : (a : Byte) → byte-sum a a ≡ byte 0
plus_self a = ap byte (xor_self a.0)

times_comm : (a b : Byte) → byte-product a b ≡ byte-product b a
times_comm a b = ap byte (product_comm a.0 b.0)

times_assoc : (a b c : Byte) → byte-product (byte-product a b) c ≡ byte-product a (byte-product b c)
times_assoc a b c =
    ap byte (ap (λ n. product n c.0) (byte-product-number a b) ∙ product_assoc a.0 b.0 c.0 ∙ ap (product a.0) (sym (byte-product-number b c)))

times_zero : (a : Byte) → byte-product a (byte 0) ≡ byte 0
times_zero a = ap byte (product-zero_right a.0)

times-one : (a : Byte) → byte-product a (byte 1) ≡ a
times-one a = times_comm a (byte 1) ∙ ap byte (product-one a.0 a.1) ∙ byte_of a

times_plus : (a b c : Byte) → byte-product a (byte-sum b c) ≡ byte-sum (byte-product a b) (byte-product a c)
times_plus a b c =
    ap byte (ap (product a.0) (byte-sum-number b c) ∙ product-sum_right a.0 b.0 c.0
    ∙ ap₂ bit_xor (sym (byte-product-number a b)) (sym (byte-product-number a c)))

times-inverse : (a : Byte) → a ≢ byte 0 → byte-product (byte (inverse a.0)) a ≡ byte 1
times-inverse a z =
    let positive : a.0 ≢ 0 = (λ e. z (byte_path e)) in
    ap byte (ap (λ n. product n a.0) (byte-number _ (inverse-lt a.0))
    ∙ product_comm (inverse a.0) a.0 ∙ product-inverse a.0 (omega arith) a.1)

one_not_zero : byte 1 ≢ byte 0
one_not_zero e = suc-ne-zero 0 (ap (λ t. t.0) e)

pub bytes_laws : Laws bytes
bytes_laws = record {
  +_comm = plus_comm;
  +_assoc = plus_assoc;
  +-𝟘 = plus_zero;
  +-self = plus_self;
  *-comm = times_comm;
  *-assoc = times_assoc;
  *-𝟘 = times_zero;
  *-𝟙 = times-one;
  *-+ = times_plus;
  *-inv = times-inverse;
  𝟙≢𝟘 = one_not_zero;
  ⊕-comm = plus_comm;
  ⊕-assoc = plus_assoc;
  ⊕-null = plus_zero;
  ⊕-self = plus_self;
  •-⊕ = times_plus;
  +-• = λ a b c. times_comm (byte-sum a b) c ∙ times_plus c a b ∙ ap₂ byte-sum (times_comm c a) (times_comm c b);
  *-• = times_assoc;
  𝟙-• = λ a. times_comm (byte 1) a ∙ times-one a;
  𝟘-• = λ a. times_comm (byte 0) a ∙ times_zero a;
  unit = byte 1;
  unit≢null = one_not_zero;
}

pub laws : (E : ℕ) → 0 < E → Laws (Coded E)
laws zero h = absurd (omega arith)
laws (suc E) h = symbols_laws bytes bytes_laws E
