-- What a sender is (document 01, "Packets"; document 02, No. 7; RFC 8681, section 3.3), and how its memory holds it: a header, which keeps the flows, then
-- a slot of E bytes for each symbol of the window.
use Rattle.std.specs.Prelude.{◌≡◌, ◌≤◌, ◌+◌, ◌<◌, ◌-◌, ◌%◌, ◌*◌, ◌++◌, ◌^◌, ◌&&◌}
use Rattle.words.specs.Words.{ℕ, List, length, [], Some, None, get_or, Option, drop, cond, ltb, leb}
use Rattle.memory.specs.Part.{part}
use Rattle.memory.specs.Number.{number}
use Rattle.wire.specs.declared.Setting.{Setting}
use Rattle.wire.specs.Stored.{setting_in}
use Rattle.wire.specs.Packets.{source_symbols}
use Rattle.wire.specs.Flows.{flows_in}
use Rattle.sender.specs.declared.Header.{Header}

-- a sender: its setting, the flows that it announces, in 32 bytes, and the source symbols of all ADUs that it took, the oldest first
pub record Sender : Type 0 where
  pub setting : Setting
  pub flows : List ℕ
  pub symbols : List (List ℕ)

-- the position of the window's first symbol: how many symbols have left the window
abbrev pub window_start : Sender → ℕ
window_start s = length s.symbols - s.setting.width

-- the window: the last `width` symbols
abbrev pub window : Sender → List (List ℕ)
window s = drop (window_start s) s.symbols

-- a sender that took nothing
abbrev pub fresh : Setting → (flows : List ℕ) → Sender
fresh t flows = record { setting = t; flows = flows; symbols = [] }

-- the sender after taking an ADU of a flow: its symbols join those before
abbrev pub taken : Sender → ℕ → List ℕ → Sender
taken s flow adu = record { setting = s.setting; flows = s.flows; symbols = s.symbols ++ source_symbols flow adu s.setting.size }

-- ---- the memory

-- the bytes of the header
unfoldable pub header_size : ℕ
header_size = 64

-- the bytes of memory that a sender needs
abbrev pub memory_size : Setting → ℕ
memory_size t = header_size + t.width * t.size

-- the header of a sender of the setting: how many symbols the window has, and the slot and the ESI of the next symbol; none where the memory is
-- too short for the setting, or the numbers are not of its window
abbrev pub header_with : List ℕ → Option Setting → Option Header
header_with m None = None
header_with m (Some t) =
    cond (leb (memory_size t) (length m) && (leb (number (part 8 2 m)) t.width && ltb (number (part 10 2 m)) t.width))
    (Some (record { setting = t; held = number (part 8 2 m); next = number (part 10 2 m); esi = record { 0 = number (part 12 4 m) } }))
    None

-- the sender's header at the front of a memory; refusal 3 where there is none
unfoldable pub header_in : List ℕ → Option Header
header_in m = header_with m (setting_in 1 m)

-- the header of a sender
abbrev pub header_of : Sender → Header
header_of s = record {
  setting = s.setting;
  held = length (window s);
  next = length s.symbols % s.setting.width;
  esi = record { 0 = length s.symbols % 2 ^ 32 };
}

-- each symbol of the window stands in its slot, that of position p in slot p mod width
abbrev pub InSlots : ℕ → ℕ → List ℕ → List (List ℕ) → Type 0
InSlots size width m symbols =
    (p : ℕ) → p < length symbols → length symbols ≤ p + width → part (header_size + p % width * size) size m ≡ get_or symbols p []

-- the memory m holds the sender s
pub record Holds (m : List ℕ) (s : Sender) : Type 0 where
  pub header : header_in m ≡ Some (header_of s)
  pub flows : flows_in m ≡ s.flows
  pub slots : InSlots s.setting.size s.setting.width m s.symbols
