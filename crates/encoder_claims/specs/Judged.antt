-- What an encoder has to answer and to write: call by call, from the four numbers of its opening, what the call is given, and the ADUs taken before it
-- (document 02, No. 9; RFC 6865, section 5.1, and RFC 5510). m, out and a are memory, output and answer; m' and out' memory and output afterwards; `taken` are
-- the source symbols of the ADUs that the encoder took before the call, in order. Each record has the refusals in the order of their tests; 3 has no place here,
-- since the calls follow an opening.
use Rattle.std.specs.Prelude.{◌≡◌, ◌≤◌, ◌+◌, ◌<◌, ◌∷◌, ◌*◌, ◌++◌, ◌^◌, Result}
use Rattle.words.specs.Words.{ℕ, List, length, [], get_or, drop}
use Rattle.memory.specs.Number.{bytes}
use Rattle.memory.specs.Contained.{Contained}
use Rattle.field.specs.Powers.{power}
use Rattle.wire.specs.Answers.{Said, value, refusal, said}
use Rattle.wire.specs.Opening.{receiver_memory}
use Rattle.interpolation.specs.Polynomial.{value as value_at, Through}
use Rattle.block_encoder.specs.Promises.{Opens}
use Rattle.encoder_claims.specs.Run.{EncoderCall, added, repaired, memory_after, EncoderRun, symbols_of}
use Rattle.wire.specs.declared.Refusal.{Refusal}

-- The call answers the refusal n; memory and output are as they were, byte for byte.
pub record Refuses (n : ℕ) (a : Said) (m m' out out' : List ℕ) : Type 0 where
  pub answer : a ≡ refusal n
  pub memory : m' ≡ m
  pub output : out' ≡ out

-- The packet stands at the front of the output, which is as it was past the packet, and the answer is the packet's length.
pub record Writes (packet : List ℕ) (a : Said) (out out' : List ℕ) : Type 0 where
  pub answer : a ≡ value (length packet)
  pub output : out' ≡ packet ++ drop (length packet) out

-- E has its values; and so have k, the total and the block number.
abbrev pub SizeAllowed : (E : ℕ) → Type 0
SizeAllowed E = (4 ≤ E) × (E ≤ 1500)

abbrev pub BlockAllowed : (k total number : ℕ) → Type 0
BlockAllowed k total number = (1 ≤ k) × (k ≤ total) × (total ≤ 255) × (number < 2 ^ 24)

-- Byte b of each source symbol.
abbrev pub bytes_at : (taken : List (List ℕ)) (b : ℕ) → ℕ → ℕ
bytes_at taken b i = get_or (get_or taken i []) b 0

module _ (E k total number : ℕ) where
  -- Opening on the memory m: 1, 18, 2, else 0. A refusal leaves the memory, byte for byte; and past the bytes that a receiver of width k needs it stays.
  pub record OpeningJudged (m : List ℕ) (a : Said) (m' : List ℕ) : Type 0 where
    pub size : ¬ SizeAllowed E → (a ≡ refusal 1) × (m' ≡ m)
    pub block : SizeAllowed E → ¬ BlockAllowed k total number → (a ≡ refusal 18) × (m' ≡ m)
    pub short : SizeAllowed E → BlockAllowed k total number → length m < receiver_memory E k → (a ≡ refusal 2) × (m' ≡ m)
    pub opens : SizeAllowed E → BlockAllowed k total number → receiver_memory E k ≤ length m → (a ≡ value 0) × Contained (receiver_memory E k) m m'

  -- The payload identifier: block number in 24 bits, ESI in 8, and k in 16.
  abbrev pub identified : (esi : ℕ) → List ℕ
  identified esi = bytes 4 (number * 256 + esi) ++ bytes 2 k

  -- Adding an ADU: refusals 2, 18 past the k-th, 4. Its source packet is the ADU, then the identifier, with the number of ADUs taken before as the ESI.
  pub record AduJudged (taken : List (List ℕ)) (m : List ℕ) (adu out : List ℕ) (a : Said) (m' out' : List ℕ) : Type 0 where
    pub short : length out < length adu + 6 → Refuses 2 a m m' out out'
    pub full : length adu + 6 ≤ length out → k ≤ length taken → Refuses 18 a m m' out out'
    pub long : length adu + 6 ≤ length out → length taken < k → E < 3 + length adu → Refuses 4 a m m' out out'
    pub takes : length adu + 6 ≤ length out → length taken < k → 3 + length adu ≤ E
        → Writes (adu ++ identified (length taken)) a out out' × Contained (receiver_memory E k) m m'

  -- y is the symbol with this ESI: it has E bytes, and in each byte it is the value at 2^ESI of the polynomial of degree under k that has source symbol i at 2^i
  -- for every i below k. There is such a polynomial, and what is said of the byte is said of every one.
  pub record IsSymbol (taken : List (List ℕ)) (esi : ℕ) (y : List ℕ) : Type 0 where
    pub sized : length y ≡ E
    pub polynomial : (b : ℕ) → b < E → (q : List ℕ) × Through k (bytes_at taken b) q
    pub valued : (b : ℕ) → b < E → (q : List ℕ) → Through k (bytes_at taken b) q → get_or y b 0 ≡ value_at q (power esi)

  -- ESIs of repair symbols.
  abbrev pub RepairEsi : (esi : ℕ) → Type 0
  RepairEsi esi = (k ≤ esi) × (esi < total)

  -- Making repair, which leaves the memory: refusals 2, 18, 7. The repair packet is the identifier with that ESI, then the symbol.
  pub record RepairJudged (taken : List (List ℕ)) (m : List ℕ) (esi : ℕ) (out : List ℕ) (a : Said) (out' : List ℕ) : Type 0 where
    pub short : length out < E + 6 → Refuses 2 a m m out out'
    pub stray : E + 6 ≤ length out → ¬ RepairEsi esi → Refuses 18 a m m out out'
    pub early : E + 6 ≤ length out → RepairEsi esi → length taken < k → Refuses 7 a m m out out'
    pub makes : E + 6 ≤ length out → RepairEsi esi → k ≤ length taken
        → (y : List ℕ) × IsSymbol taken esi y × Writes (identified esi ++ y) a out out'

  -- A call on the memory m; and each call of a list that begins on the memory m, after the calls before it.
  abbrev pub CallJudged : (taken : List (List ℕ)) (m : List ℕ) → EncoderCall → Type 0
  CallJudged taken m (added flow adu out r m' out') = AduJudged taken m adu out (said r) m' out'
  CallJudged taken m (repaired esi out r out') = RepairJudged taken m esi out (said r) out'

  abbrev pub CallsJudged : (m : List ℕ) → List EncoderCall → Type 0
  CallsJudged m l =
      (before : List EncoderCall) (c : EncoderCall) (after : List EncoderCall) → l ≡ before ++ (c ∷ after)
      → CallJudged (symbols_of E before) (memory_after m before) c

-- Every opening of an encoder answers and leaves what `OpeningJudged` says.
abbrev pub OpeningIsJudged : Type 0
OpeningIsJudged =
    (E k total number : ℕ) (m : List ℕ) (r : Result ℕ Refusal) (m' : List ℕ) → Opens E k total number m r m' → OpeningJudged E k total number m (said r) m'

-- And every call of every list after an opening that answered 0 what `CallJudged` says.
abbrev pub EncoderJudged : Type 0
EncoderJudged = (E k total number : ℕ) (l : List EncoderCall) (r : EncoderRun E k total number l) → CallsJudged E k total number r.after l
