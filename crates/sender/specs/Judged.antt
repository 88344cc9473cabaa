-- What a sender has to answer and to write: call by call, from what the call is given, the flows announced and the ADUs taken before it (document 01,
-- "Packets" and "Why a call says no"; document 02, No. 7; RFC 8681, sections 3.3, 4.1.2 and 4.1.3). m, out and a are memory, output and answer; m' and out'
-- memory and output afterwards; `flows` are the 32 bytes of the opening; `taken` are the symbols of the ADUs that the sender took before the call, the oldest
-- first. Each record has the refusals in the order of their tests; 3 has no place here, since the calls follow an opening.
use Rattle.std.specs.Prelude.{◌≡◌, ◌≤◌, ◌+◌, ◌<◌, ◌-◌, ◌%◌, ◌∷◌, ◌*◌, ◌++◌, ◌^◌, ◌&&◌, Result}
use Rattle.words.specs.Words.{ℕ, List, length, [], true, drop, cond, eqb, map, min}
use Rattle.memory.specs.Contained.{Contained}
use Rattle.wire.specs.declared.Setting.{Setting}
use Rattle.wire.specs.Settings.{scheme_number}
use Rattle.wire.specs.Flows.{Announced}
use Rattle.wire.specs.Packets.{source_packet, repair_packet}
use Rattle.wire.specs.Answers.{Said, value, refusal, said}
use Rattle.wire.specs.Opening.{sender_memory, OpeningJudged}
use Rattle.coefficients.specs.Coefficients.{keys, lists_of, all_ok, draws_of}
use Rattle.rows.specs.Combination.{combination}
use Rattle.sender.specs.Answers.{answer_of, draws_in}
use Rattle.sender.specs.Run.{SenderCall, added, repaired, memory_after, symbols_of, SenderRun}
use Rattle.sender.specs.Promises.{Opens}
use Rattle.wire.specs.declared.Refusal.{Refusal}

-- the call answers the refusal n; memory and output are as they were, byte for byte
pub record Refuses (n : ℕ) (a : Said) (m m' out out' : List ℕ) : Type 0 where
  pub answer : a ≡ refusal n
  pub memory : m' ≡ m
  pub output : out' ≡ out

-- the packet stands at the front of the output, which is as it was past the packet, and the answer is the packet's length
pub record Writes (packet : List ℕ) (a : Said) (out out' : List ℕ) : Type 0 where
  pub answer : a ≡ value (length packet)
  pub output : out' ≡ packet ++ drop (length packet) out

-- DT and the number of repair symbols have their values
abbrev pub Ranged : (dt count : ℕ) → Type 0
Ranged dt count = (dt ≤ 15) × (1 ≤ count) × (count ≤ 16)

module _ (t : Setting) where
  open t use {scheme, size as E, width}

  -- the ADU has at most 65,535 bytes and, with its flow and length before it, fits `width` symbols
  abbrev pub Takeable : List ℕ → Type 0
  Takeable adu = (length adu ≤ 65535) × (3 + length adu ≤ width * E)

  -- adding an ADU: refusals 16, 4, 2; its packet has the ESI of its first symbol: the number of symbols taken before, in 32 bits
  pub record AduJudged (flows : List ℕ) (taken : List (List ℕ)) (m : List ℕ) (flow : ℕ) (adu out : List ℕ) (a : Said) (m' out' : List ℕ) : Type 0 where
    pub stray : ¬ Announced flows flow → Refuses 16 a m m' out out'
    pub long : Announced flows flow → ¬ Takeable adu → Refuses 4 a m m' out out'
    pub short : Announced flows flow → Takeable adu → length out < length adu + 4 → Refuses 2 a m m' out out'
    pub takes : Announced flows flow → Takeable adu → length adu + 4 ≤ length out
        → Writes (source_packet adu (length taken % 2 ^ 32)) a out out' × Contained (sender_memory E width) m m'

  -- the key of a repair packet: 0 in scheme 9 with DT 15, else the call's; and the keys of its repair symbols, counting up from there
  abbrev pub key_in : (key dt : ℕ) → ℕ
  key_in key dt = cond (eqb (scheme_number scheme) 9 && eqb dt 15) 0 key

  abbrev pub keys_in : (key dt count : ℕ) → List ℕ
  keys_in key dt count = keys (key_in key dt) count

  -- it covers the last `width` symbols, or all where they are fewer; and so many are older
  abbrev pub covered : List (List ℕ) → ℕ
  covered taken = min (length taken) width

  abbrev pub older : List (List ℕ) → ℕ
  older taken = length taken - covered taken

  -- the repair packet: each repair symbol is the combination of the symbols covered, with the coefficients that its key gives
  abbrev pub packet_of : List (List ℕ) → (key dt count : ℕ) → List ℕ
  packet_of taken key dt count =
      repair_packet (key_in key dt) dt (covered taken) (older taken % 2 ^ 32)
      (map (λ (c : List ℕ). combination E c (drop (older taken) taken)) (lists_of scheme dt (covered taken) (keys_in key dt count)))

  -- making repair, which leaves the memory: refusals 6, 7, 2, 10; beside the packet's length it answers the draws of the coefficients
  pub record RepairJudged (taken : List (List ℕ)) (m : List ℕ) (key dt count : ℕ) (out : List ℕ) (a : Said) (draws : ℕ) (out' : List ℕ) : Type 0 where
    pub range : ¬ Ranged dt count → Refuses 6 a m m out out'
    pub empty : Ranged dt count → taken ≡ [] → Refuses 7 a m m out out'
    pub short : Ranged dt count → ¬ (taken ≡ []) → length out < 8 + count * E → Refuses 2 a m m out out'
    pub draws_fail : Ranged dt count → ¬ (taken ≡ []) → 8 + count * E ≤ length out → ¬ (all_ok scheme dt (covered taken) (keys_in key dt count) ≡ true)
        → Refuses 10 a m m out out'
    pub makes : Ranged dt count → ¬ (taken ≡ []) → 8 + count * E ≤ length out → all_ok scheme dt (covered taken) (keys_in key dt count) ≡ true
        → Writes (packet_of taken key dt count) a out out' × (draws ≡ draws_of scheme dt (covered taken) (keys_in key dt count))

  -- a call on the memory m; and each call of a list that begins on the memory m, after the calls before it
  abbrev pub CallJudged : (flows : List ℕ) (taken : List (List ℕ)) (m : List ℕ) → SenderCall → Type 0
  CallJudged flows taken m (added flow adu out r m' out') = AduJudged flows taken m flow adu out (said r) m' out'
  CallJudged flows taken m (repaired key dt count out r out') = RepairJudged taken m key dt count out (said (answer_of r)) (draws_in r) out'

  abbrev pub CallsJudged : (flows m : List ℕ) → List SenderCall → Type 0
  CallsJudged flows m l =
      (before : List SenderCall) (c : SenderCall) (after : List SenderCall) → l ≡ before ++ (c ∷ after)
      → CallJudged flows (symbols_of E before) (memory_after m before) c

-- every opening of a sender answers and leaves what `OpeningJudged` says
abbrev pub OpeningIsJudged : Type 0
OpeningIsJudged =
    (scheme E width : ℕ) (flows m : List ℕ) (r : Result ℕ Refusal) (m' : List ℕ) → Opens scheme E width flows m r m'
    → OpeningJudged (sender_memory E width) scheme E width m (said r) m'

-- and every call of every list after an opening that answered 0 what `CallJudged` says
abbrev pub SenderJudged : Type 0
SenderJudged = (t : Setting) (l : List SenderCall) (r : SenderRun t l) → CallsJudged t r.flows r.after l
