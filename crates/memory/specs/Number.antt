-- Numbers in bytes, the most significant byte first.
use Rattle.std.specs.Prelude.{◌+◌, ◌<◌, ◌%◌, ◌∷◌, ◌*◌, ◌^◌, ◌/◌}
use Rattle.words.specs.Words.{ℕ, List, length, [], suc, zero, get_or}

-- the number that the bytes write
abbrev pub number : List ℕ → ℕ
number [] = 0
number (b ∷ l) = b * 256 ^ length l + number l

-- the n bytes that write v
abbrev pub bytes : ℕ → ℕ → List ℕ
bytes zero v = []
bytes (suc n) v = v / 256 ^ n % 256 ∷ bytes n v

-- every element is a byte
abbrev pub Bytes : List ℕ → Type 0
Bytes l = (i : ℕ) → get_or l i 0 < 256
