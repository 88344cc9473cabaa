-- The receiver as a plain history (document 01, "Receiver, as a plain history", and document 02, No. 2 and 7): what a packet says where it lies, which
-- packets a list of calls has accepted, where that has brought the base, and what the next call has to answer. No memory and no elimination stands here.
use Rattle.std.specs.Prelude.{◌≡◌, ◌≤◌, ◌+◌, ◌<◌, ◌-◌, ◌%◌, ◌∷◌, ◌^◌, ◌↔◌, ◌&&◌, ◌⊎◌}
use Rattle.words.specs.Words.{ℕ, List, length, [], Some, suc, true, zero, None, false, Bool, Option, cond, ltb}
use Rattle.words.specs.Words.{leb, map, max}
use Rattle.memory.specs.Number.{Bytes}
use Rattle.wire.specs.declared.Setting.{Setting}
use Rattle.wire.specs.Numbers.{within, distance_of}
use Rattle.wire.specs.Answers.{Said, value, refusal}
use Rattle.wire.specs.Packets.{longest_adu, symbol_count, source_symbols, source_form, source_adu, source_esi, repair_form, repair_key, density_threshold}
use Rattle.wire.specs.Packets.{protected_count, first_esi, repair_symbols}
use Rattle.wire.specs.Opening.{receiver_memory, working_memory}
use Rattle.wire.specs.Flows.{announced}
use Rattle.coefficients.specs.Coefficients.{keys, lists_of, all_ok}
use Rattle.rows.specs.Combination.{combination}
use Rattle.starts.specs.Adu.{needs}
use Rattle.history.specs.Symbol.{Symbol, bytes_of}

-- ---- What a packet says

-- A packet at its place: the symbols of the positions from `first` on; or repair symbols, and for each its coefficients of the `n` positions
-- from `first` on.
pub data Located : Type 0 where
  source : (first : ℕ) (symbols : List (List ℕ)) → Located
  repair : (first n : ℕ) (coefficients symbols : List (List ℕ)) → Located

-- Its first position, and how many positions it names.
abbrev pub first : Located → ℕ
first (source p symbols) = p
first (repair p n coefficients symbols) = p

abbrev pub named : Located → ℕ
named (source p symbols) = length symbols
named (repair p n coefficients symbols) = n

-- A filling gives E bytes to every position. Positions count from the joining one on: whatever it gives to smaller
-- numbers binds nothing.
abbrev pub Filling : ℕ → Type 0
Filling E = ℕ → Symbol E

module _ (E : ℕ) where
  -- The bytes that a filling gives to the n positions from p on.
  abbrev pub symbols_at : Filling E → (p n : ℕ) → List (List ℕ)
  symbols_at f p zero = []
  symbols_at f p (suc n) = bytes_of E (f p) ∷ symbols_at f (suc p) n

  -- A source packet is satisfied when its positions hold its symbols; a repair packet when every repair symbol
  -- equals its combination.
  abbrev pub Satisfied : Located → Filling E → Type 0
  Satisfied (source p symbols) f = symbols_at f p (length symbols) ≡ symbols
  Satisfied (repair p n coefficients symbols) f =
      map (λ (c : List ℕ). combination E c (symbols_at f p n)) coefficients ≡ symbols

  abbrev pub All : List Located → Filling E → Type 0
  All [] f = Unit {0}
  All (q ∷ qs) f = Satisfied q f × All qs f

  -- Some filling satisfies all of them.
  abbrev pub Consistent : List Located → Type 0
  Consistent qs = (f : Filling E) × All qs f

  -- All fillings that satisfy all of them agree at a position.
  abbrev pub Known : List Located → ℕ → Type 0
  Known qs p = (f g : Filling E) → All qs f → All qs g → f p ≡ g p

-- ---- Side

-- On which side of the base an ESI lies: behind it, or d positions ahead of it.
pub data Side : Type 0 where
  behind : Side
  ahead : (d : ℕ) → Side

-- From this distance on an ESI lies behind the base: half of all ESIs.
unfoldable pub halfway : ℕ
halfway = 2 ^ 31

-- d = (e - base) mod 2^32; from halfway on it lies behind.
unfoldable pub side_of : (base e : ℕ) → Side
side_of base e = let d = distance_of e (base % 2 ^ 32) in cond (ltb d halfway) (ahead d) behind

-- ---- Reading a call

-- A packet call: a source packet with its flow, or a repair packet.
pub data Call : Type 0 where
  source-call : (flow : ℕ) (packet : List ℕ) → Call
  repair-call : (packet : List ℕ) → Call

-- Its flow and its packet are bytes.
abbrev pub OfBytes : Call → Type 0
OfBytes (source-call flow packet) = (flow < 256) × Bytes packet
OfBytes (repair-call packet) = Bytes packet

-- The ESI of the first symbol that its packet names.
abbrev pub esi_of : Call → ℕ
esi_of (source-call flow packet) = source_esi packet
esi_of (repair-call packet) = first_esi packet

-- What the checks that stand before 11 make of a call: the number of the first that fails, or the packet at its place.
pub data Reading : Type 0 where
  fails : ℕ → Reading
  located : Located → Reading

-- A check, and what comes after it.
unfoldable pub check : Bool → ℕ → Reading → Reading
check true n r = r
check false n r = fails n

-- How far past the base the last position that a packet names may lie.
unfoldable pub farthest : ℕ
farthest = 65536

-- n symbols on a side of the base: 8 behind the base, 9 too far ahead of it, else what comes after.
unfoldable pub from_side : (n : ℕ) → Side → (ℕ → Reading) → Reading
from_side n behind next = fails 8
from_side n (ahead d) next = check (leb (d + n) farthest) 9 (next d)

-- The bytes that a receiver needs, and those of the working memory that a packet call borrows.
abbrev pub memory_size : Setting → ℕ
memory_size s = receiver_memory s.size s.width

abbrev pub working_size : Setting → ℕ
working_size s = working_memory s.size s.width

module _ (s : Setting) where
  open s use {scheme, size as E, width}

  -- A source packet, where these flows are announced: form (5), flow (16), ADU (4), place (8, 9).
  unfoldable pub read_source : (flows : List ℕ) (base flow : ℕ) → List ℕ → Reading
  read_source flows base flow p =
      let adu = source_adu p in
      let n = symbol_count E (length adu) in
      check (source_form p) 5
      (check (announced flows flow) 16
      (check (leb (length adu) longest_adu && leb n width) 4
      (from_side n (side_of base (source_esi p)) (λ d. located (source (base + d) (source_symbols flow adu E))))))

  -- A repair packet: form (5), number of symbols protected (6), place (8, 9), coefficients (10).
  unfoldable pub read_repair : (base : ℕ) → List ℕ → Reading
  read_repair base p =
      let dt = density_threshold p in
      let n = protected_count p in
      let symbols = repair_symbols E p in
      let ks = keys (repair_key p) (length symbols) in
      check (repair_form E p) 5
      (check (within 1 width n) 6
      (from_side n (side_of base (first_esi p))
      (λ d. check (all_ok scheme dt n ks) 10 (located (repair (base + d) n (lists_of scheme dt n ks) symbols)))))

  abbrev pub read_packet : (flows : List ℕ) (base : ℕ) → Call → Reading
  read_packet flows base (source-call flow p) = read_source flows base flow p
  read_packet flows base (repair-call p) = read_repair base p

  -- A call that is lent `room` bytes of working memory: too few are refused (2) before the packet is read.
  unfoldable pub reading : (flows : List ℕ) (base room : ℕ) → Call → Reading
  reading flows base room c = check (leb (working_size s) room) 2 (read_packet flows base c)

-- ---- The history

-- What the calls so far have come to: the packets accepted, the last first.
abbrev pub Log : Type 0
Log = List Located

abbrev pub fresh : Log
fresh = []

-- The base for a packet that begins at a position: where there is none yet, that position.
abbrev pub base_for : Option ℕ → (first : ℕ) → ℕ
base_for None p = p
base_for (Some b) p = b

-- The position at which the packets joined: the first position of the first of them.
abbrev pub joined_at : Log → Option ℕ
joined_at [] = None
joined_at (q ∷ qs) = Some (base_for (joined_at qs) (first q))

-- A call answers a number, and no refusal.
abbrev pub IsValue : Said → Type 0
IsValue (value n) = Unit {0}
IsValue (refusal n) = ⊥

-- Of the numbers below n, k have the property.
pub data Counted (P : ℕ → Type 0) : ℕ → ℕ → Type 0 where
  nothing : Counted P 0 0
  has : {n k : ℕ} → P n → Counted P n k → Counted P (suc n) (suc k)
  lacks : {n k : ℕ} → ¬ P n → Counted P n k → Counted P (suc n) k

module _ (s : Setting) where
  open s use {size as E, width}

  -- Base rises, by the least needed, until the packet's last position fits. The first packet sets it to its own first position.
  abbrev pub raised : Option ℕ → Located → ℕ
  raised base q = max (base_for base (first q)) (first q + named q - width)

  -- The base after the packets; a fresh receiver has none.
  abbrev pub base_of : Log → Option ℕ
  base_of [] = None
  base_of (q ∷ l) = Some (raised (base_of l) q)

  -- What the checks before 11 make of a call that is lent `room` bytes of working memory, where these flows are announced: where there is no base yet, the
  -- packet's first ESI is taken for it.
  abbrev pub read_after : (flows : List ℕ) → Log → (room : ℕ) → Call → Reading
  read_after flows l room c = reading s flows (base_for (base_of l) (esi_of c)) room c

  -- The log after a call that answered so: a packet is accepted when its call answers a count and no refusal.
  abbrev pub logged : Log → Reading → Said → Log
  logged l (located q) (value n) = q ∷ l
  logged l (located q) (refusal n) = l
  logged l (fails m) a = l

  -- A position that is known after a packet and was not before it.
  abbrev pub New : Log → Located → ℕ → Type 0
  New l q p = Known E (q ∷ l) p × ¬ Known E l p

  -- What the next call has to answer.
  pub record Judged (l : Log) (r : Reading) (a : Said) : Type 0 where
    -- It is accepted exactly when it passes the checks and some filling satisfies it and all accepted before.
    pub accepted : IsValue a ↔ ((q : Located) × (r ≡ located q) × Consistent E (q ∷ l))
    -- The answer counts the positions of the new window that are known now and were not before.
    pub counted : (q : Located) (k : ℕ) → r ≡ located q → a ≡ value k
        → Counted (λ i. New l q (raised (base_of l) q + i)) width k
    -- Where a check fails, the number is that of the first; where none does, 11 says that no filling satisfies it and
    -- all accepted before.
    pub failed : (m : ℕ) → r ≡ fails m → a ≡ refusal m
    pub contradicts : (q : Located) → r ≡ located q → (a ≡ refusal 11) ↔ ¬ Consistent E (q ∷ l)

-- ---- Starts

module _ (s : Setting) where
  open s use {size as E, width}

  -- A mark is kept from the base on up to base + width, that one included.
  pub record Spanned (base p : ℕ) : Type 0 where
    pub low : base ≤ p
    pub high : p ≤ base + width

  -- A source packet marks its first position and the one after its last.
  abbrev pub MarkedBy : Located → ℕ → Type 0
  MarkedBy (source p symbols) x = (x ≡ p) ⊎ (x ≡ p + length symbols)
  MarkedBy (repair p n coefficients symbols) x = ⊥

  -- After the packets qs, with the base where they have brought it, from the positions that are marked already: a marked known position of the window,
  -- whose L needs n symbols in what the fillings hold there, marks the position n later.
  pub data Reached (qs : List Located) (base : ℕ) (Already : ℕ → Type 0) : ℕ → Type 0 where
    already : {p : ℕ} → Already p → Spanned base p → Reached qs base Already p
    later : {p : ℕ} → Reached qs base Already p → p < base + width → Known E qs p → (f : Filling E) → All E qs f
        → Spanned base (p + needs E (bytes_of E (f p))) → Reached qs base Already (p + needs E (bytes_of E (f p)))

  -- The positions that are marked as starts after the packets qs, the last first: none at first; and after every packet those marked before it, those
  -- that it marks, and those that they reach.
  abbrev pub Start : Log → ℕ → Type 0
  Start [] p = ⊥
  Start (q ∷ qs) p = Reached (q ∷ qs) (raised s (base_of s qs) q) (λ x. Start qs x ⊎ MarkedBy q x) p
