-- Computed from the definitions: what the checks before 11 make of packets, and what calls answer and show, of a block of two source symbols of 4 bytes and four
-- symbols in all, with the number 0x010203. The ADUs 41 of flow 1 and 42 of flow 2; the repair symbols as RFC 5510's own matrices give them.
use Rattle.std.specs.Prelude.{◌≡◌, ◌∷◌, ◌++◌}
use Rattle.words.specs.Words.{ℕ, List, refl, [], map, cond, replicate}
use Rattle.field.specs.Powers.{power}
use Rattle.wire.specs.Answers.{Said, value, refusal}
use Rattle.history.specs.Symbol.{bytes_of}
use Rattle.history.specs.History.{Call, source-call, repair-call}
use Rattle.history.specs.Model.{Finding, shows, hides, Origins, unheard}
use Rattle.history.specs.Computing.{computing}
use Rattle.interpolation.specs.Lagrange.{others, term, lagrange, lagranges}
use Rattle.blocks.specs.declared.Block.{Block}
use Rattle.block_receiver.specs.Reading.{Reading, fails, located, source_check, repair_check, reading}
use Rattle.block_receiver.specs.Model.{System, opened, said_of, state_after, receiving, finding, origins_after}

abbrev block : Block
block = record { size = 4; k = 2; total = 4; number = 0x010203 }

-- Six bytes of an identifier; a source packet with its flow, and a repair packet.
abbrev named : (a b c esi k : ℕ) → List ℕ
named a b c esi k = a ∷ b ∷ c ∷ esi ∷ 0 ∷ k ∷ []

abbrev source : (flow : ℕ) (adu : List ℕ) (esi : ℕ) → Call
source flow adu esi = source-call flow (adu ++ named 1 2 3 esi 2)

abbrev repair : (esi : ℕ) (symbol : List ℕ) → Call
repair esi symbol = repair-call (named 1 2 3 esi 2 ++ symbol)

-- The packets of the block.
abbrev first : Call
first = source 1 (0x41 ∷ []) 0

abbrev second : Call
second = source 2 (0x42 ∷ []) 1

abbrev third : Call
third = repair 2 (4 ∷ 0 ∷ 1 ∷ 0x44 ∷ [])

abbrev fourth : Call
fourth = repair 3 (8 ∷ 0 ∷ 1 ∷ 0x48 ∷ [])

-- ---- The checks before 11, with 129 bytes of working memory, which are enough, or one less

abbrev packet : (esi : ℕ) (symbol : List ℕ) → Reading
packet esi symbol = located (record { esi = esi; symbol = symbol })

pub sources :
    -- what is wrong in all is refused with 2, in all but that with 5, then 18, then 4
    reading block 128 (source-call 1 (1 ∷ 2 ∷ 3 ∷ 2 ∷ 0 ∷ [])) ∷ reading block 129 (source-call 1 (1 ∷ 2 ∷ 3 ∷ 2 ∷ 0 ∷ []))
    ∷ reading block 129 (source 1 (0x41 ∷ 0x42 ∷ []) 2) ∷ reading block 129 (source 1 (0x41 ∷ 0x42 ∷ []) 1)
    -- another number, in each of its bytes, another k, an ESI of a repair symbol
    ∷ map (λ (x : List ℕ). reading block 129 (source-call 1 (0x41 ∷ x)))
    (named 0 2 3 0 2 ∷ named 1 3 3 0 2 ∷ named 1 2 2 0 2 ∷ named 1 2 3 0 3 ∷ (1 ∷ 2 ∷ 3 ∷ 0 ∷ 1 ∷ 2 ∷ []) ∷ named 1 2 3 2 2 ∷ [])
    ≡ fails 2 ∷ fails 5 ∷ fails 18 ∷ fails 4 ∷ replicate 6 (fails 18)
unfolding computing source_check
sources = refl

pub repairs :
    reading block 128 (repair 4 (1 ∷ 2 ∷ 3 ∷ [])) ∷ reading block 129 (repair 4 (1 ∷ 2 ∷ 3 ∷ [])) ∷ reading block 129 (repair 2 (1 ∷ 2 ∷ 3 ∷ 4 ∷ 5 ∷ []))
    -- ESIs of a source symbol, and past the last
    ∷ map (λ (e : ℕ). reading block 129 (repair e (1 ∷ 2 ∷ 3 ∷ 4 ∷ []))) (0 ∷ 1 ∷ 4 ∷ 255 ∷ [])
    ≡ fails 2 ∷ fails 5 ∷ fails 5 ∷ replicate 4 (fails 18)
unfolding computing repair_check
repairs = refl

pub passing :
    reading block 129 first ∷ reading block 129 second ∷ reading block 129 (source 7 [] 1) ∷ reading block 129 third ∷ reading block 129 fourth ∷ []
    ≡ packet 0 (1 ∷ 0 ∷ 1 ∷ 0x41 ∷ []) ∷ packet 1 (2 ∷ 0 ∷ 1 ∷ 0x42 ∷ []) ∷ packet 1 (7 ∷ 0 ∷ 0 ∷ 0 ∷ [])
    ∷ packet 2 (4 ∷ 0 ∷ 1 ∷ 0x44 ∷ []) ∷ packet 3 (8 ∷ 0 ∷ 1 ∷ 0x48 ∷ []) ∷ []
unfolding computing source_check repair_check
passing = refl

-- ---- Calls from an opening on

-- What is shown of a source symbol: its bytes, and whether it was heard; or a refusal.
pub data Sight : Type 0 where
  heard : List ℕ → Sight
  solved : List ℕ → Sight
  hidden : ℕ → Sight

abbrev sight : Origins → Finding 4 → Sight
sight H (shows e v) = cond (H e) (heard (bytes_of 4 v)) (solved (bytes_of 4 v))
sight H (hides n) = hidden n

-- The answers of calls, and what is shown at ESIs 0, 1 and 2 after them.
pub record Outcome : Type 0 where
  pub answers : List Said
  pub sights : List Sight

abbrev comes : System block → Origins → List Said → List Call → Outcome
comes S H answers [] = record { answers = answers; sights = map (λ (e : ℕ). sight H (finding block S e)) (0 ∷ 1 ∷ 2 ∷ []) }
comes S H answers (c ∷ cs) =
    let o = receiving block S 129 c in
    comes (state_after S o) (origins_after block (reading block 129 c) o H) (answers ++ (said_of o ∷ [])) cs

abbrev after : List Call → Outcome
after cs = comes (opened block) unheard [] cs

abbrev one : List ℕ
one = 1 ∷ 0 ∷ 1 ∷ 0x41 ∷ []

abbrev two : List ℕ
two = 2 ∷ 0 ∷ 1 ∷ 0x42 ∷ []

abbrev to : List Said → (a b : Sight) → Outcome
to answers a b = record { answers = answers; sights = a ∷ b ∷ hidden 12 ∷ [] }

pub calls :
    after [] ∷ after (third ∷ []) ∷ after (first ∷ third ∷ []) ∷ after (third ∷ fourth ∷ [])
    -- a repeat counts for nothing, and is no contradiction; one with another flow is
    ∷ after (third ∷ third ∷ []) ∷ after (third ∷ third ∷ second ∷ []) ∷ after (first ∷ first ∷ source 3 (0x41 ∷ []) 0 ∷ [])
    -- solved first and heard later; and a packet that no block satisfies with the others
    ∷ after (third ∷ fourth ∷ second ∷ []) ∷ after (first ∷ second ∷ repair 3 (8 ∷ 0 ∷ 1 ∷ 0x49 ∷ []) ∷ fourth ∷ []) ∷ []
    ≡ to [] (hidden 12) (hidden 12) ∷ to (value 0 ∷ []) (hidden 12) (hidden 12) ∷ to (value 1 ∷ value 1 ∷ []) (heard one) (solved two)
    ∷ to (value 0 ∷ value 2 ∷ []) (solved one) (solved two) ∷ to (value 0 ∷ value 0 ∷ []) (hidden 12) (hidden 12)
    ∷ to (value 0 ∷ value 0 ∷ value 2 ∷ []) (solved one) (heard two) ∷ to (value 1 ∷ value 0 ∷ refusal 11 ∷ []) (heard one) (hidden 12)
    ∷ to (value 0 ∷ value 2 ∷ value 0 ∷ []) (solved one) (heard two) ∷ to (value 1 ∷ value 1 ∷ refusal 11 ∷ value 0 ∷ []) (heard one) (heard two) ∷ []
unfolding computing source_check repair_check receiving finding others term lagrange lagranges power
calls = refl
