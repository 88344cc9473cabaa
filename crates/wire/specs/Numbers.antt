-- The two kinds of number (document 01, "Words and sizes"), and the number that documents 01 and 02 give each refusal.
use Rattle.std.specs.Prelude.{◌+◌, ◌-◌, ◌%◌, ◌^◌, ◌&&◌}
use Rattle.words.specs.Words.{ℕ, Bool, leb}
use Rattle.wire.specs.declared.Refusal.{Refusal}
use Rattle.wire.specs.declared.Refusal.TheVariants.{Values, Short, Unopened, Long, Form, Range, Empty, Behind, Ahead, Draws, Contradiction, Unknown}
use Rattle.wire.specs.declared.Refusal.TheVariants.{NoStart, Padding, Unannounced, Grid, Block}

-- x lies from low to high
abbrev pub within : ℕ → ℕ → ℕ → Bool
within low high x = leb low x && leb x high

-- how far the ESI e lies past the ESI base, modulo 2^32
abbrev pub distance_of : ℕ → ℕ → ℕ
distance_of e base = (e + 2 ^ 32 - base) % 2 ^ 32

-- the key after a key, modulo 65,536
abbrev pub key_after : ℕ → ℕ
key_after key = (key + 1) % 2 ^ 16

-- the number of a refusal (document 01, "Why a call says no"; document 02, No. 7 to 9)
abbrev pub number_of : Refusal → ℕ
number_of Values = 1
number_of Short = 2
number_of Unopened = 3
number_of Long = 4
number_of Form = 5
number_of Range = 6
number_of Empty = 7
number_of Behind = 8
number_of Ahead = 9
number_of Draws = 10
number_of Contradiction = 11
number_of Unknown = 12
number_of NoStart = 13
number_of Padding = 14
number_of Unannounced = 16
number_of Grid = 17
number_of Block = 18
