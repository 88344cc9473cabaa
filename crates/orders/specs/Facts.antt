-- Computed from the definitions, from the packets' bytes on: the same packets in two orders, in scheme 9 with E 4 and width 2. What is shown is the same;
-- counts and starts need not be. And what is not the same packets.
use Rattle.std.specs.Prelude.{◌≡◌, ◌∷◌}
use Rattle.words.specs.Words.{ℕ, List, refl, [], Some, None, Option, map, cond}
use Rattle.wire.specs.Answers.{Said, value, refusal}
use Rattle.wire.specs.Flows.{all_flows}
use Rattle.starts.specs.Adu.{Handing, hands, withholds}
use Rattle.history.specs.Symbol.{bytes_of}
use Rattle.history.specs.History.{Call}
use Rattle.history.specs.Model.{State, Finding, shows, hides, finding, adu_at, Origins}
use Rattle.history.specs.Facts.{begun, called}
use Rattle.history.specs.Computing.{computing}
use Rattle.sheet.specs.Bench.{gf2, adu, symbol_call, repair-of}

-- What is shown at a position: the bytes of a known symbol, and whether it was heard; or the number of a refusal.
pub data Sight : Type 0 where
  heard : List ℕ → Sight
  solved : List ℕ → Sight
  hidden : ℕ → Sight

-- What calls have come to: their answers; the base, and what is shown at the positions from there on; and what the ADU call comes to there.
pub record Outcome : Type 0 where
  pub answers : List Said
  pub base : Option ℕ
  pub sights : List Sight
  pub adus : List Handing

-- What the symbol call found, where these positions are heard; and the base of a state.
abbrev sight : Origins → Finding 4 → Sight
sight H (shows p v) = cond (H p) (heard (bytes_of 4 v)) (solved (bytes_of 4 v))
sight H (hides n) = hidden n

abbrev base_in : State (gf2 2) → Option ℕ
base_in None = None
base_in (Some t) = Some t.base

-- The calls of a list from a fresh receiver, and what is shown at these ESIs after them.
abbrev comes : List Call → List ℕ → Outcome
comes cs es =
    let a = called (gf2 2) all_flows (begun (gf2 2)) cs in
    record {
      answers = a.answers;
      base = base_in a.state;
      sights = map (λ e. sight a.heard (finding (gf2 2) a.state e)) es;
      adus = map (adu_at (gf2 2) all_flows a.state a.marks 1) es;
    }

-- As it is written below.
abbrev to : List Said → ℕ → List Sight → List Handing → Outcome
to answers b sights adus = record { answers = answers; base = Some b; sights = sights; adus = adus }

-- ---- The same packets

-- The symbols 0 and 1 of C7, the first of which a source packet has brought; those of source packets at ESI 1 and 2; and the second symbol of an ADU at ESI 1
-- with the symbol after it, of repair packets.
abbrev one_heard : List Sight
one_heard = heard (1 ∷ 0 ∷ 1 ∷ 0x41 ∷ []) ∷ solved (1 ∷ 0 ∷ 1 ∷ 0x42 ∷ []) ∷ []

abbrev two_heard : List Sight
two_heard = heard (1 ∷ 0 ∷ 1 ∷ 0x42 ∷ []) ∷ heard (1 ∷ 0 ∷ 1 ∷ 0x43 ∷ []) ∷ []

abbrev two_solved : List Sight
two_solved = solved (0x43 ∷ 0x44 ∷ 0x45 ∷ 0x46 ∷ []) ∷ solved (1 ∷ 0 ∷ 1 ∷ 0x47 ∷ []) ∷ []

-- Two ADUs of a byte each are handed out.
abbrev both_handed : ℕ → ℕ → List Handing
both_handed a b = hands 1 (a ∷ []) ∷ hands 1 (b ∷ []) ∷ []

pub orders :
    -- C7's source packet and repair packet: counts on the way differ
    comes (adu 0x41 0 ∷ repair-of 2 3 ∷ []) (0 ∷ 1 ∷ [])
    ∷ comes (repair-of 2 3 ∷ adu 0x41 0 ∷ []) (0 ∷ 1 ∷ [])
    -- symbol 0 is solved before it leaves the window, or never: the sum of the counts differs
    ∷ comes (repair-of 2 3 ∷ adu 0x42 1 ∷ adu 0x43 2 ∷ []) (1 ∷ 2 ∷ [])
    ∷ comes (repair-of 2 3 ∷ adu 0x43 2 ∷ adu 0x42 1 ∷ []) (1 ∷ 2 ∷ [])
    -- solved first and heard later, and the other way round
    ∷ comes (symbol_call 0 1 0 1 0x41 ∷ adu 0x41 0 ∷ symbol_call 1 1 0 1 0x42 ∷ []) (0 ∷ 1 ∷ [])
    ∷ comes (adu 0x41 0 ∷ symbol_call 1 1 0 1 0x42 ∷ symbol_call 0 1 0 1 0x41 ∷ []) (0 ∷ 1 ∷ [])
    -- the ADU at ESI 1 has two symbols, and marks ESI 3 only while it is in the window: starts differ at the end
    ∷ comes (adu 0x41 0 ∷ symbol_call 1 1 0 5 0x42 ∷ symbol_call 2 0x43 0x44 0x45 0x46 ∷ symbol_call 3 1 0 1 0x47 ∷ []) (2 ∷ 3 ∷ [])
    ∷ comes (adu 0x41 0 ∷ symbol_call 1 1 0 5 0x42 ∷ symbol_call 3 1 0 1 0x47 ∷ symbol_call 2 0x43 0x44 0x45 0x46 ∷ []) (2 ∷ 3 ∷ [])
    ∷ []
    ≡ to (value 1 ∷ value 1 ∷ []) 0 one_heard (both_handed 0x41 0x42)
    ∷ to (value 0 ∷ value 2 ∷ []) 0 one_heard (both_handed 0x41 0x42)
    ∷ to (value 0 ∷ value 2 ∷ value 1 ∷ []) 1 two_heard (both_handed 0x42 0x43)
    ∷ to (value 0 ∷ value 1 ∷ value 1 ∷ []) 1 two_heard (both_handed 0x42 0x43)
    ∷ to (value 1 ∷ value 0 ∷ value 1 ∷ []) 0 one_heard (both_handed 0x41 0x42)
    ∷ to (value 1 ∷ value 1 ∷ value 0 ∷ []) 0 one_heard (both_handed 0x41 0x42)
    ∷ to (value 1 ∷ value 1 ∷ value 1 ∷ value 1 ∷ []) 2 two_solved (withholds 13 ∷ hands 1 (0x47 ∷ []) ∷ [])
    ∷ to (value 1 ∷ value 1 ∷ value 1 ∷ value 1 ∷ []) 2 two_solved (withholds 13 ∷ withholds 13 ∷ [])
    ∷ []
unfolding computing
orders = refl

-- ---- Not the same packets

pub others :
    -- two packets that contradict each other: each receiver accepts the one that came first
    comes (adu 0x41 0 ∷ adu 0x42 0 ∷ []) (0 ∷ [])
    ∷ comes (adu 0x42 0 ∷ adu 0x41 0 ∷ []) (0 ∷ [])
    -- one that comes after a later one is behind: the receiver has joined at the later one
    ∷ comes (adu 0x42 1 ∷ adu 0x43 2 ∷ []) (1 ∷ 2 ∷ [])
    ∷ comes (adu 0x43 2 ∷ adu 0x42 1 ∷ []) (1 ∷ 2 ∷ [])
    ∷ []
    ≡ to (value 1 ∷ refusal 11 ∷ []) 0 (heard (1 ∷ 0 ∷ 1 ∷ 0x41 ∷ []) ∷ []) (hands 1 (0x41 ∷ []) ∷ [])
    ∷ to (value 1 ∷ refusal 11 ∷ []) 0 (heard (1 ∷ 0 ∷ 1 ∷ 0x42 ∷ []) ∷ []) (hands 1 (0x42 ∷ []) ∷ [])
    ∷ to (value 1 ∷ value 1 ∷ []) 1 two_heard (both_handed 0x42 0x43)
    ∷ to (value 1 ∷ refusal 8 ∷ []) 2 (hidden 8 ∷ heard (1 ∷ 0 ∷ 1 ∷ 0x43 ∷ []) ∷ []) (withholds 8 ∷ hands 1 (0x43 ∷ []) ∷ [])
    ∷ []
unfolding computing
others = refl
