-- The flows that an end announces (document 02, No. 7): 256 yes or no values in 32 bytes, which its memory keeps.
use Rattle.std.specs.Prelude.{◌≡◌, ◌%◌, ◌^◌, ◌/◌}
use Rattle.words.specs.Words.{ℕ, List, get_or, Bool, eqb, replicate}
use Rattle.memory.specs.Part.{part}

-- F is bit F mod 8, lowest first, of byte F div 8: the flow is announced where that is 1; and as a test
abbrev pub Announced : (flows : List ℕ) (F : ℕ) → Type 0
Announced flows F = get_or flows (F / 8) 0 / 2 ^ (F % 8) % 2 ≡ 1

unfoldable pub announced : (flows : List ℕ) (F : ℕ) → Bool
announced flows F = eqb (get_or flows (F / 8) 0 / 2 ^ (F % 8) % 2) 1

-- the bytes that announce every flow
abbrev pub all_flows : List ℕ
all_flows = replicate 32 255

-- where the memory of either end keeps them
unfoldable pub flows_in : List ℕ → List ℕ
flows_in m = part 32 32 m
