-- Positions become starts: after an ADU that is held at one, and where a source packet was accepted.
use Rattle.std.specs.Prelude.{◌≡◌, ◌≤◌, ◌+◌, ◌∷◌, ◌++◌, Result, Ok}
use Rattle.words.specs.Words.{ℕ, List, length, Some, drop}
use Rattle.wire.specs.declared.Setting.{Setting}
use Rattle.wire.specs.Settings.{Valid}
use Rattle.wire.specs.Packets.{symbol_count, source_adu}
use Rattle.wire.specs.Answers.{said}
use Rattle.history.specs.History.{Located, first, Consistent, source-call, located, IsValue, base_of, MarkedBy, Start}
use Rattle.receiver.specs.Promises.{Layout, AduAnswered}
use Rattle.claims.specs.Run.{Step, read, history}
use Rattle.claims.specs.Demand.{esi}
use Rattle.claims.specs.Handing.{HoldsAdu, IsHandedOut}
use Rattle.wire.specs.declared.Refusal.{Refusal}

-- Where a start has an ADU's symbols in every filling, inside the window, the position after its last symbol is a start too. Some filling satisfies the
-- accepted packets by demand 3.
abbrev pub GoesOn : Type 0
GoesOn =
    (s : Setting) → Valid s → (flows : List ℕ) (ts : List Step) → Consistent s.size (history s flows ts) → (b : ℕ) → base_of s (history s flows ts) ≡ Some b
    → (p flow : ℕ) (adu : List ℕ) → Start s (history s flows ts) p → HoldsAdu s (history s flows ts) b p flow adu
    → Start s (history s flows ts) (p + symbol_count s.size (length adu))

-- The first position of an accepted source packet, and the one after its last, are starts as long as the base has not passed them, whatever packets
-- are accepted later.
abbrev pub Heard : Type 0
Heard =
    (s : Setting) (flows : List ℕ) (ts : List Step) (later earlier : List Located) (q : Located) → history s flows ts ≡ later ++ (q ∷ earlier)
    → (p : ℕ) → MarkedBy s q p → (b : ℕ) → base_of s (history s flows ts) ≡ Some b → b ≤ p → Start s (history s flows ts) p

-- So where a source packet's call answered a count, the ADU call at its first position hands out its ADU with its flow, where output has room: as long
-- as the base has not passed that position, whatever calls come after.
abbrev pub HeardHanded : Layout → Type 0
HeardHanded L =
    (s : Setting) → Valid s → (flows : List ℕ) (before : List Step) (t : Step) (after : List Step) (m : List ℕ)
    → let l = history s flows (before ++ (t ∷ after)) in
    (b : ℕ) → base_of s l ≡ Some b → IsHandedOut L s flows m l b
    → (flow : ℕ) (packet : List ℕ) (q : Located) → t.call ≡ source-call flow packet → read s flows (history s flows before) t ≡ located q
    → IsValue (said t.answer) → b ≤ first q
    → (out out' : List ℕ) (a : Result (ℕ × ℕ) Refusal) → AduAnswered L m (esi (first q)) out out' a
    → let adu = source_adu packet in
    length adu ≤ length out → (a ≡ Ok (flow, length adu)) × (out' ≡ adu ++ drop (length adu) out)
