-- Contracts of inner functions: a reader need not believe these.
-- They speak of a memory and of the header that was read from it, whether or not the memory holds a sender.
use Rattle.std.specs.Prelude.{◌≡◌, ◌≤◌, ◌+◌, ◌<◌, ◌-◌, ◌%◌, ◌∷◌, ◌*◌, ◌++◌, Result, Ok, Err}
use Rattle.words.specs.Words.{ℕ, List, length, [], suc, true, zero, get_or, false, Bool, drop}
use Rattle.words.specs.Words.{take, map}
use Rattle.memory.specs.Part.{part, splice}
use Rattle.memory.specs.Number.{bytes}
use Rattle.wire.specs.declared.Refusal.TheVariants.{Draws}
use Rattle.wire.specs.Inner.{esi_before}
use Rattle.wire.specs.declared.Setting.{Setting}
use Rattle.wire.specs.Settings.{Valid}
use Rattle.wire.specs.Packets.{longest_adu, symbol_count, source_symbols, chunks, repair_packet}
use Rattle.rows.specs.Combination.{dot, coefficient, combination}
use Rattle.coefficients.specs.Coefficients.{keys, all_ok, draws_of}
use Rattle.sender.specs.declared.Header.{Header}
use Rattle.sender.specs.State.{Sender, taken, header_size, memory_size, InSlots, Holds}
use Rattle.sender.specs.Repair.{repair_symbol, written_key}
use Rattle.wire.specs.declared.Refusal.{Refusal}

-- ---- the header

-- the bytes of the numbers that change
abbrev pub count_bytes : (held next esi : ℕ) → List ℕ
count_bytes held next esi = bytes 2 held ++ (bytes 2 next ++ bytes 4 esi)

-- ---- taking an ADU

-- the symbols of an ADU, `count` of them, fit a window that starts at slot `first` of the memory
pub record Fitting (t : Setting) (m : List ℕ) (first : ℕ) (adu : List ℕ) (count : ℕ) : Type 0 where
  pub valid : Valid t
  pub room : memory_size t ≤ length m
  pub slot : first < t.width
  pub short : length adu ≤ longest_adu
  pub counted : count ≡ symbol_count t.size (length adu)

-- new symbols were placed from slot `first` on: m became m', and the slot after them is next
pub record Placed (size width : ℕ) (m : List ℕ) (first : ℕ) (new : List (List ℕ)) (m' : List ℕ) (next : ℕ) : Type 0 where
  pub same : length m' ≡ length m
  pub head : take header_size m' ≡ take header_size m
  pub past : drop (header_size + width * size) m' ≡ drop (header_size + width * size) m
  pub within : next < width
  pub slot : (xs : List (List ℕ)) → first ≡ length xs % width → next ≡ length (xs ++ new) % width
  pub slots : (xs : List (List ℕ)) → first ≡ length xs % width → InSlots size width m xs → InSlots size width m' (xs ++ new)

-- the symbols of an ADU were
abbrev pub PlacedAdu : (t : Setting) (first flow : ℕ) (adu m m' : List ℕ) (next : ℕ) → Type 0
PlacedAdu t first flow adu m m' next = Placed t.size t.width m first (source_symbols flow adu t.size) m' next

-- an ADU of `count` symbols can be taken
pub record Takeable (t : Setting) (adu : List ℕ) (count : ℕ) : Type 0 where
  pub short : length adu ≤ longest_adu
  pub counted : count ≡ symbol_count t.size (length adu)
  pub few : count ≤ t.width

-- an ADU was taken: m became m'
pub record Took (h : Header) (flow : ℕ) (adu m m' : List ℕ) : Type 0 where
  pub same : length m' ≡ length m
  pub past : drop (memory_size h.setting) m' ≡ drop (memory_size h.setting) m
  pub holds : (s : Sender) → Holds m s → Holds m' (taken s flow adu)

-- ---- making repair

abbrev pub AllZero : List ℕ → Type 0
AllZero l = (k : ℕ) → get_or l k 0 ≡ 0

-- cs has the coefficients of list from the slot `first` on, around: every sum over the slots is the sum over the list
pub record Laid (first : ℕ) (list cs : List ℕ) : Type 0 where
  pub sum : (x : ℕ → ℕ) → dot (coefficient cs) x (length cs) ≡ dot (coefficient list) (λ j. x ((first + j) % length cs)) (length list)

-- the slot of the window's first symbol
abbrev pub first_slot : Header → ℕ
first_slot h = (h.next + h.setting.width - h.held) % h.setting.width

-- n symbols as they stand in the memory, from a slot on, around the window
abbrev pub stored : (size width : ℕ) → List ℕ → (first n : ℕ) → List (List ℕ)
stored size width m first zero = []
stored size width m first (suc n) = part (header_size + first % width * size) size m ∷ stored size width m (first + 1) n

-- the window's symbols
abbrev pub window_in : Header → List ℕ → List (List ℕ)
window_in h m = stored h.setting.size h.setting.width m (first_slot h) h.held

-- the repair symbols of the lists of coefficients that stand one after the other
unfoldable pub symbols_from : Header → List ℕ → (count : ℕ) → List ℕ → List (List ℕ)
symbols_from h m count lists = map (λ (cs : List ℕ). combination h.setting.size cs (window_in h m)) (chunks count h.held lists)

-- the output has room for the packet, and the lists are there
pub record HasRoom (h : Header) (count : ℕ) (coefficients out : List ℕ) : Type 0 where
  pub symbols : 8 + count * h.setting.size ≤ length out
  pub lists : count * h.held ≤ length coefficients

-- the repair packet
unfoldable pub packet_from : Header → List ℕ → (key dt count : ℕ) → List ℕ
packet_from h m key dt count =
    repair_packet key dt h.held (esi_before h.esi.0 h.held)
    (map (repair_symbol h.setting.scheme dt h.setting.size (window_in h m)) (keys key count))

-- a repair packet was written, or the coefficients met refusal 10 and nothing was
abbrev pub PacketOr10 : Bool → (h : Header) (key dt count : ℕ) (m out : List ℕ) (r : Result (ℕ × ℕ) Refusal) (out' : List ℕ) → Type 0
PacketOr10 true h key dt count m out r out' =
    (r ≡ Ok (8 + count * h.setting.size, draws_of h.setting.scheme dt h.held (keys key count)))
    × (out' ≡ splice 0 (packet_from h m key dt count) out)
PacketOr10 false h key dt count m out r out' = (r ≡ Err Draws) × (out' ≡ out)

abbrev pub Packed : (h : Header) (key dt count : ℕ) (m out : List ℕ) (r : Result (ℕ × ℕ) Refusal) (out' : List ℕ) → Type 0
Packed h key dt count m out r out' =
    let written = written_key h.setting.scheme key dt in
    PacketOr10 (all_ok h.setting.scheme dt h.held (keys written count)) h written dt count m out r out'
