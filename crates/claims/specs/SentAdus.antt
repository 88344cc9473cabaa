-- A sender's ADUs at the receiver: what is handed out at the start of one, and that packets of the sender's alone mark no other position.
use Rattle.std.specs.Prelude.{◌≡◌, ◌≤◌, ◌+◌, ◌%◌, ◌∷◌, ◌++◌, ◌^◌, Ok}
use Rattle.words.specs.Words.{ℕ, List, length, [], drop, take}
use Rattle.wire.specs.declared.Scheme.{Scheme}
use Rattle.wire.specs.declared.Setting.{Setting}
use Rattle.wire.specs.Packets.{symbol_count, source_symbols, source_packet}
use Rattle.history.specs.History.{Filling, Located, All, Log, fresh, IsValue, base_of, logged, Start}
use Rattle.wire.specs.Answers.{said}
use Rattle.sender.specs.Run.{SenderCall, added, SenderRun, symbols_of}
use Rattle.claims.specs.Written.{Packet, source, repair, packets_of, Wrote}
use Rattle.claims.specs.Run.{Step, read, history}
use Rattle.claims.specs.Carrying.{Carries}
use Rattle.claims.specs.Sent.{call_of, Arrives, AsWritten, Peers}
use Rattle.claims.specs.Handing.{HoldsAdu}

module _ (E : ℕ) (l : List SenderCall) where
  -- The ADU was taken with its flow, and its first symbol is the sender's p-th.
  pub record Begins (p flow : ℕ) (adu : List ℕ) : Type 0 where
    pub before : List SenderCall
    pub after : List SenderCall
    pub out : List ℕ
    pub answer : ℕ
    pub m' : List ℕ
    pub out' : List ℕ
    pub split : l ≡ before ++ (added flow adu out (Ok answer) m' out' ∷ after)
    pub place : p ≡ length (symbols_of E before)

  -- The sender's p-th symbol is the first of an ADU, or all ADUs end before it.
  pub record Boundary (p : ℕ) : Type 0 where
    pub before : List SenderCall
    pub after : List SenderCall
    pub split : l ≡ before ++ after
    pub place : p ≡ length (symbols_of E before)

-- A packet of this sender's, and the number of the first symbol that it names: the source packet of an ADU that it took, or a repair packet.
pub data Sent (scheme : Scheme) (E : ℕ) (l : List SenderCall) : Packet → (p : ℕ) → Type 0 where
  sent-source : {p flow : ℕ} {adu : List ℕ} → Begins E l p flow adu → Sent scheme E l (source flow (source_packet adu (p % 2 ^ 32))) p
  sent-repair : {p : ℕ} {x : List ℕ} → Wrote scheme E (symbols_of E l) (repair x) p → Sent scheme E l (repair x) p

-- Every packet that a sender writes is one of these.
abbrev pub AllSent : Scheme → ℕ → List SenderCall → List Packet → Type 0
AllSent scheme E l [] = Unit {0}
AllSent scheme E l (x ∷ xs) = ((p : ℕ) × Sent scheme E l x p) × AllSent scheme E l xs

abbrev pub SenderSends : Type 0
SenderSends = (t : Setting) (l : List SenderCall) → SenderRun t l → AllSent t.scheme t.size l (packets_of l)

-- Where a filling carries the sender's symbols, and a position is the start of one of its ADUs, only that ADU can be handed out there, with its flow.
abbrev pub StartGives : Type 0
StartGives =
    (t s : Setting) (l : List SenderCall) → Peers t s l → (qs : List Located) (base join offset : ℕ) (f : Filling s.size) → All s.size qs f
    → Carries s.size join offset (symbols_of s.size l) f
    → (p flow : ℕ) (adu : List ℕ) → join ≤ p → HoldsAdu s qs base p flow adu
    → (flow' : ℕ) (adu' : List ℕ) → Begins s.size l (p + offset) flow' adu' → (flow ≡ flow') × (adu ≡ adu')

-- At any other position too, where the sender has symbols there, what is handed out is those symbols. So a chain of starts that began on bytes that are no
-- ADU's first can give the sender's bytes cut at a wrong place, with the flow and length that they happen to spell there; it can't give other bytes.
abbrev pub JunkGives : Type 0
JunkGives =
    (s : Setting) (qs : List Located) (base join offset : ℕ) (all : List (List ℕ)) (f : Filling s.size) → All s.size qs f
    → Carries s.size join offset all f
    → (p flow : ℕ) (adu : List ℕ) → join ≤ p → HoldsAdu s qs base p flow adu → p + offset + symbol_count s.size (length adu) ≤ length all
    → source_symbols flow adu s.size ≡ take (symbol_count s.size (length adu)) (drop (p + offset) all)

-- All packets that the list accepts are this sender's, and stood less than halfway from base on arrival.
module _ (s : Setting) (flows : List ℕ) (l : List SenderCall) (offset : ℕ) where
  abbrev pub AsSent : Log → List Step → Type 0
  AsSent log [] = Unit {0}
  AsSent log (t ∷ ts) =
      (IsValue (said t.answer) → (x : Packet) × (p : ℕ) × (call_of x ≡ t.call) × Sent s.scheme s.size l x p × Arrives (base_of s log) offset p)
      × AsSent (logged s log (read s flows log t) (said t.answer)) ts

-- Then all of them are as it wrote them: what is claimed of such packets is claimed of these.
abbrev pub SentWritten : Type 0
SentWritten =
    (t s : Setting) (l : List SenderCall) → Peers t s l → (flows : List ℕ) (offset : ℕ) (ts : List Step) → AsSent s flows l offset fresh ts
    → AsWritten s flows (symbols_of s.size l) offset fresh ts

-- Then every start is the first symbol of one of its ADUs, or the end of all.
abbrev pub SentStarts : Type 0
SentStarts =
    (t s : Setting) (l : List SenderCall) → Peers t s l → (flows : List ℕ) (offset : ℕ) (ts : List Step) → AsSent s flows l offset fresh ts
    → (p : ℕ) → Start s (history s flows ts) p → Boundary s.size l (p + offset)

-- And an ADU that every filling holds at a start, whatever the base b, is one that it took, with its flow. Together with `handed` this is what the ADU call
-- hands out.
abbrev pub SentHanded : Type 0
SentHanded =
    (t s : Setting) (l : List SenderCall) → Peers t s l → (flows : List ℕ) (offset : ℕ) (ts : List Step) → AsSent s flows l offset fresh ts
    → (b p flow : ℕ) (adu : List ℕ) → Start s (history s flows ts) p → HoldsAdu s (history s flows ts) b p flow adu
    → Begins s.size l (p + offset) flow adu
