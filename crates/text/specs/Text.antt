-- Text as bytes: characters, decimal numbers and hexadecimal bytes (document 02, No. 4).
use Rattle.std.specs.Prelude.{◌+◌, ◌%◌, ◌∷◌, ◌++◌, ◌/◌}
use Rattle.words.specs.Words.{ℕ, List, [], suc, zero, cond, ltb}
use Prim.Native.Char.{code}
use Prim.Native.String.{String, [] as empty, ◌∷◌ as ◌then◌}

-- the characters of a text, one byte each
abbrev pub ascii : String → List ℕ
ascii empty = []
ascii (c then t) = code c ∷ ascii t

-- the digit of a number below 16: 0 to 9, A to F
unfoldable pub digit : ℕ → ℕ
digit d = cond (ltb d 10) (48 + d) (55 + d)

-- n in decimal, with no leading zero, where it has at most k digits before the last
unfoldable pub decimal_within : (k n : ℕ) → List ℕ
decimal_within zero n = digit (n % 10) ∷ []
decimal_within (suc k) n =
    let more = decimal_within k (n / 10) ++ (digit (n % 10) ∷ []) in
    cond (ltb n 10) (digit (n % 10) ∷ []) more

-- n in decimal: n digits before the last are always enough
unfoldable pub decimal : ℕ → List ℕ
decimal n = decimal_within n n

-- bytes in hexadecimal, two digits each
unfoldable pub hexadecimal : List ℕ → List ℕ
hexadecimal [] = []
hexadecimal (b ∷ l) = digit (b / 16) ∷ (digit (b % 16) ∷ hexadecimal l)

-- a name and a number
abbrev pub field : String → ℕ → List ℕ
field name n = ascii name ++ decimal n
