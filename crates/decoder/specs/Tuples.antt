-- Bytes, and symbols of `n` bytes.
use Rattle.std.specs.Prelude.{◌<◌, ◌∷◌}
use Rattle.words.specs.Words.{ℕ, suc, zero, List, []}

-- A number below 256.
abbrev pub Byte : Type 0
Byte = (n : ℕ) × (n < 256)

-- `n` values.
abbrev pub Tuple : Type 0 → ℕ → Type 0
Tuple A zero = Unit {0}
Tuple A (suc n) = A × Tuple A n

-- The bytes of a symbol.
abbrev pub bytes-of : (n : ℕ) → Tuple Byte n → List ℕ
bytes-of zero v = []
bytes-of (suc n) v = v.0.0 ∷ bytes-of n v.1
