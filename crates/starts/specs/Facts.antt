-- Computed from the definitions: what the ADU call hands out of a window of symbols of 4 bytes, and the order of its refusals past 8.
use Rattle.std.specs.Prelude.{◌≡◌, ◌∷◌, ◌++◌}
use Rattle.words.specs.Words.{ℕ, List, refl, [], Some, suc, zero, None, Option, eqb}
use Rattle.memory.specs.Part.{part}
use Rattle.wire.specs.Packets.{zeros, symbol_count}
use Rattle.wire.specs.Flows.{announced}
use Rattle.starts.specs.Adu.{View, joint, Handing, hands, withholds, need, handing}

-- What is known of a window, position by position.
abbrev showing : List (Option (List ℕ)) → View
showing [] i = None
showing (o ∷ l) zero = o
showing (o ∷ l) (suc i) = showing l i

-- The ADU call for the d-th position of a window, of which the first alone is marked, where these flows are announced; and where those of bits 0 and 1 of
-- the first byte and of bit 7 of the last are: flows 0, 1 and 255.
abbrev handed_of : (flows : List ℕ) (width room d : ℕ) → List (Option (List ℕ)) → Handing
handed_of flows width room d l = handing 4 width flows room (λ i. eqb i 0) (showing l) d

abbrev handed : (width room d : ℕ) → List (Option (List ℕ)) → Handing
handed = handed_of (3 ∷ zeros 30 ++ 128 ∷ [])

-- A known symbol of these bytes.
abbrev known : (a b c d : ℕ) → Option (List ℕ)
known a b c d = Some (a ∷ b ∷ c ∷ d ∷ [])

-- What is handed out, or the first check that fails.
pub orders :
    -- 13 before 12: not marked and not known; not marked and known; marked and not known
    handed 2 0 1 [] ∷ handed 2 0 1 (None ∷ known 1 0 0 0 ∷ []) ∷ handed 2 0 0 []
    -- 14 before 12 and 2: three symbols with width 2, of which two are not known, and no output
    ∷ handed 2 0 0 (known 1 0 6 7 ∷ []) ∷ handed 3 0 0 (known 1 0 6 7 ∷ [])
    -- L has its most significant byte first: 256 bytes take 65 symbols, 65,535 take 16,385
    ∷ handed 64 0 0 (known 1 1 0 7 ∷ []) ∷ handed 65 0 0 (known 1 1 0 7 ∷ []) ∷ handed 255 0 0 (known 1 0xFF 0xFF 7 ∷ [])
    -- 12 before 14 and 2: the second symbol not known; 14 before 2: padding whose first byte, or last, is not zero
    ∷ handed 2 0 0 (known 1 0 2 7 ∷ None ∷ []) ∷ handed 2 0 0 (known 1 0 2 7 ∷ known 8 1 0 0 ∷ []) ∷ handed 2 0 0 (known 1 0 2 7 ∷ known 8 0 0 1 ∷ [])
    -- output one byte short, and enough
    ∷ handed 2 1 0 (known 1 0 2 7 ∷ known 8 0 0 0 ∷ []) ∷ handed 2 2 0 (known 1 0 2 7 ∷ known 8 0 0 0 ∷ [])
    -- an ADU with no padding, whose F is 255; one of no byte, and padding not zero behind it
    ∷ handed 2 5 0 (known 255 0 5 7 ∷ known 8 9 10 11 ∷ []) ∷ handed 1 0 0 (known 0 0 0 0 ∷ []) ∷ handed 1 0 0 (known 0 0 0 1 ∷ [])
    -- a flow that is not announced: 13, 12 and 14 before 16; 16 before 2, and where output has room; its neighbours 0, 1 and 255 are announced
    ∷ handed 2 0 1 (None ∷ known 2 0 0 0 ∷ []) ∷ handed 2 0 0 (known 2 0 2 7 ∷ None ∷ []) ∷ handed 2 0 0 (known 2 0 6 7 ∷ [])
    ∷ handed 2 2 0 (known 2 0 2 7 ∷ known 8 0 0 1 ∷ []) ∷ handed 2 1 0 (known 2 0 2 7 ∷ known 8 0 0 0 ∷ [])
    ∷ handed 2 2 0 (known 2 0 2 7 ∷ known 8 0 0 0 ∷ []) ∷ handed 1 0 0 (known 254 0 0 0 ∷ []) ∷ handed 1 0 0 (known 7 0 0 0 ∷ [])
    -- none is announced
    ∷ handed_of (zeros 32) 1 0 0 (known 0 0 0 0 ∷ [])
    ∷ []
    ≡ withholds 13 ∷ withholds 13 ∷ withholds 12
    ∷ withholds 14 ∷ withholds 12
    ∷ withholds 14 ∷ withholds 12 ∷ withholds 14
    ∷ withholds 12 ∷ withholds 14 ∷ withholds 14
    ∷ withholds 2 ∷ hands 1 (7 ∷ 8 ∷ [])
    ∷ hands 255 (7 ∷ 8 ∷ 9 ∷ 10 ∷ 11 ∷ []) ∷ hands 0 [] ∷ withholds 14
    ∷ withholds 13 ∷ withholds 12 ∷ withholds 14
    ∷ withholds 14 ∷ withholds 16
    ∷ withholds 16 ∷ withholds 16 ∷ withholds 16
    ∷ withholds 16
    ∷ []
unfolding symbol_count announced part joint need handing
orders = refl
