-- The checks of a packet call that stand before 11, in their order (document 01, "Why a call says no", and document 02, No. 7: 2, 5, 16, 4 or 6, 8, 9, 10),
-- from the packet's bytes, the flows, the working memory lent and the base, in plain arithmetic: each gives its number where it is the first that fails.
use Rattle.std.specs.Prelude.{◌≡◌, ◌≤◌, ◌+◌, ◌<◌, ◌-◌, ◌%◌, ◌*◌, ◌^◌, ◌/◌}
use Rattle.words.specs.Words.{ℕ, List, length, true, take}
use Rattle.wire.specs.declared.Setting.{Setting}
use Rattle.wire.specs.Settings.{Valid}
use Rattle.wire.specs.Flows.{Announced}
use Rattle.wire.specs.Packets.{source_symbols, repair_key, density_threshold, protected_count, repair_symbols}
use Rattle.wire.specs.Opening.{working_memory}
use Rattle.coefficients.specs.Coefficients.{keys, lists_of, all_ok}
use Rattle.history.specs.History.{Located, source, repair, Call, source-call, repair-call, esi_of, Reading, fails, located, reading}

-- How far past the base b the first symbol of a packet lies, modulo 2^32.
abbrev pub distance : (b : ℕ) → Call → ℕ
distance b c = (esi_of c + 2 ^ 32 - b % 2 ^ 32) % 2 ^ 32

module _ (s : Setting) where
  open s use {scheme, size as E, width}

  -- Working memory is lent whole (else 2).
  abbrev pub Lent : (room : ℕ) → Type 0
  Lent room = working_memory E width ≤ room

  -- A source packet has an ESI; a repair packet has a header of 8 bytes and 1 to 16 symbols (else 5).
  abbrev pub Formed : Call → Type 0
  Formed (source-call flow p) = 4 ≤ length p
  Formed (repair-call p) = (k : ℕ) × (1 ≤ k) × (k ≤ 16) × (length p ≡ 8 + k * E)

  -- The flow of a source packet is announced (else 16).
  abbrev pub FlowAnnounced : (flows : List ℕ) → Call → Type 0
  FlowAnnounced flows (source-call flow p) = Announced flows flow
  FlowAnnounced flows (repair-call p) = Unit {0}

  -- An ADU has no more than 65,535 bytes, and fits `width` symbols with F and L before it (else 4); a repair packet protects 1 to `width` (else 6).
  abbrev pub Few : Call → Type 0
  Few (source-call flow p) = (length p - 4 ≤ 65535) × (3 + (length p - 4) ≤ width * E)
  Few (repair-call p) = (1 ≤ protected_count p) × (protected_count p ≤ width)

  -- The number of a packet that names too many symbols.
  abbrev pub four_or_six : Call → ℕ
  four_or_six (source-call flow p) = 4
  four_or_six (repair-call p) = 6

  -- How many symbols a packet names: those of its ADU with F and L before it, the last of them padded; or those that it protects.
  abbrev pub named_by : Call → ℕ
  named_by (source-call flow p) = (3 + (length p - 4) + (E - 1)) / E
  named_by (repair-call p) = protected_count p

  -- The keys of a repair packet's symbols.
  abbrev pub keys_in : List ℕ → List ℕ
  keys_in p = keys (repair_key p) (length (repair_symbols E p))

  -- The coefficients of a repair packet are found (else 10).
  abbrev pub Drawn : Call → Type 0
  Drawn (source-call flow p) = Unit {0}
  Drawn (repair-call p) = all_ok scheme (density_threshold p) (protected_count p) (keys_in p) ≡ true

  -- What a packet says whose first symbol lies at a position.
  abbrev pub says_at : (first : ℕ) → Call → Located
  says_at first (source-call flow p) = source first (source_symbols flow (take (length p - 4) p) E)
  says_at first (repair-call p) =
      let n = protected_count p in
      repair first n (lists_of scheme (density_threshold p) n (keys_in p)) (repair_symbols E p)

  -- A call that is lent `room` bytes of working memory finds the base b, where these flows are announced: what the checks make of it.
  pub record Checked (flows : List ℕ) (b room : ℕ) (c : Call) (r : Reading) : Type 0 where
    pub short : ¬ Lent room → r ≡ fails 2
    pub form : Lent room → ¬ Formed c → r ≡ fails 5
    pub stray : Lent room → Formed c → ¬ FlowAnnounced flows c → r ≡ fails 16
    pub many : Lent room → Formed c → FlowAnnounced flows c → ¬ Few c → r ≡ fails (four_or_six c)
    pub behind : Lent room → Formed c → FlowAnnounced flows c → Few c → 2 ^ 31 ≤ distance b c → r ≡ fails 8
    pub far : Lent room → Formed c → FlowAnnounced flows c → Few c → distance b c < 2 ^ 31 → 65536 < distance b c + named_by c → r ≡ fails 9
    pub zeros : Lent room → Formed c → FlowAnnounced flows c → Few c → distance b c < 2 ^ 31 → distance b c + named_by c ≤ 65536 → ¬ Drawn c → r ≡ fails 10
    -- Where none fails, the packet lies so far past the base.
    pub passes : Lent room → Formed c → FlowAnnounced flows c → Few c → distance b c < 2 ^ 31 → distance b c + named_by c ≤ 65536 → Drawn c
        → r ≡ located (says_at (b + distance b c) c)

-- Of every call, whatever its packet, with any flows and any base.
abbrev pub ReadingChecked : Type 0
ReadingChecked = (s : Setting) → Valid s → (flows : List ℕ) (b room : ℕ) (c : Call) → Checked s flows b room c (reading s flows b room c)
