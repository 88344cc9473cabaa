-- All that is claimed of the sender's calls, from an opening on.
use Rattle.std.specs.Prelude.{◌≡◌, ◌≤◌, ◌<◌, ◌∷◌, ◌++◌, ◌^◌, Ok}
use Rattle.words.specs.Words.{ℕ, List, length, [], get_or, map}
use Rattle.memory.specs.Number.{Bytes}
use Rattle.wire.specs.declared.Setting.{Setting}
use Rattle.wire.specs.Settings.{scheme_number}
use Rattle.wire.specs.Flows.{Announced}
use Rattle.wire.specs.Answers.{Said, said}
use Rattle.sender.specs.Promises.{answer_of, draws_in}
use Rattle.sender.specs.Run.{SenderCall, added, repaired, SenderRun, symbols_of}
use Rattle.wire.specs.Opening.{Allowed, sender_memory}
use Rattle.sender.specs.Judged.{OpeningIsJudged, SenderJudged, CallsJudged}

-- what a call is given, with the output lent
pub data Given : Type 0 where
  adding : (flow : ℕ) (adu out : List ℕ) → Given
  repairing : (key dt count : ℕ) (out : List ℕ) → Given

abbrev pub given : SenderCall → Given
given (added flow adu out r m' out') = adding flow adu out
given (repaired key dt count out r out') = repairing key dt count out

-- what is seen of a call: the answer, the draws, and the output after it
pub record Seen : Type 0 where
  pub answer : Said
  pub draws : ℕ
  pub output : List ℕ

abbrev pub seen : SenderCall → Seen
seen (added flow adu out r m' out') = record { answer = said r; draws = 0; output = out' }
seen (repaired key dt count out r out') = record { answer = said (answer_of r); draws = draws_in r; output = out' }

-- every ADU that a sender took is of a flow that its opening announced
abbrev pub AnnouncedOnly : Type 0
AnnouncedOnly =
    (t : Setting) (l : List SenderCall) (r : SenderRun t l)
    (before : List SenderCall) (flow : ℕ) (adu out : List ℕ) (n : ℕ) (m' out' : List ℕ) (after : List SenderCall)
    → l ≡ before ++ (added flow adu out (Ok n) m' out' ∷ after) → Announced r.flows flow

-- two senders of the same flows whose calls are judged so answer and write alike
abbrev pub NoChoice : Type 0
NoChoice =
    (t : Setting) (flows m n : List ℕ) (k l : List SenderCall) → map given k ≡ map given l → CallsJudged t flows m k → CallsJudged t flows n l
    → map seen k ≡ map seen l

-- flow and ADU are bytes, and a key has 16 bits
abbrev pub OfBytes : List Given → Type 0
OfBytes [] = Unit {0}
OfBytes (adding flow adu out ∷ gs) = (flow < 256) × Bytes adu × OfBytes gs
OfBytes (repairing key dt count out ∷ gs) = (key < 2 ^ 16) × OfBytes gs

-- from an opening with any 32 bytes of flows, on any memory that is long enough, every list of calls has a run
abbrev pub RunsExist : Type 0
RunsExist =
    (t : Setting) → Allowed (scheme_number t.scheme) t.size t.width → (flows : List ℕ) → length flows ≡ 32
    → (m : List ℕ) → sender_memory t.size t.width ≤ length m → (gs : List Given) → OfBytes gs
    → (l : List SenderCall) × (r : SenderRun t l) × (r.flows ≡ flows) × (r.before ≡ m) × (map given l ≡ gs)

-- symbols of E bytes
pub record AreSymbols (E : ℕ) (symbols : List (List ℕ)) : Type 0 where
  pub sized : (p : ℕ) → p < length symbols → length (get_or symbols p []) ≡ E
  pub small : (p i : ℕ) → get_or (get_or symbols p []) i 0 < 256

-- those of a sender are
abbrev pub SenderSymbols : Type 0
SenderSymbols = (t : Setting) (l : List SenderCall) → SenderRun t l → AreSymbols t.size (symbols_of t.size l)

-- all claims of the sender
pub record SenderClaims : Type 0 where
  pub opening : OpeningIsJudged
  pub judged : SenderJudged
  pub announced-only : AnnouncedOnly
  pub no_choice : NoChoice
  pub runs_exist : RunsExist
  pub symbols : SenderSymbols
