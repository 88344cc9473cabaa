-- What is claimed of reading: every packet that RFC 8681 can write within our sizes, its flow announced, is read at its place, by how far
-- its ESI lies from the base alone.
use Rattle.std.specs.Prelude.{◌≡◌, ◌≤◌, ◌+◌, ◌<◌, ◌%◌, ◌^◌}
use Rattle.words.specs.Words.{ℕ, List, length, true}
use Rattle.wire.specs.declared.Setting.{Setting}
use Rattle.wire.specs.Settings.{Valid}
use Rattle.wire.specs.Packets.{Sized, longest_adu, symbol_count, source_symbols, source_packet, repair_packet}
use Rattle.wire.specs.Flows.{announced}
use Rattle.coefficients.specs.Coefficients.{keys, lists_of, all_ok}
use Rattle.history.specs.History.{Located, source, repair, source-call, repair-call, Reading, fails, located, working_size, reading, halfway, farthest}

-- n symbols from the ESI of the position base + d on: taken at that position, or behind (8), or too far ahead (9).
pub record ReadBy (d n : ℕ) (q : Located) (r : Reading) : Type 0 where
  pub taken : d < halfway → d + n ≤ farthest → r ≡ located q
  pub behind : halfway ≤ d → r ≡ fails 8
  pub far : d < halfway → farthest < d + n → r ≡ fails 9

pub record ReadAsWritten (s : Setting) (flows : List ℕ) (base room d : ℕ) : Type 0 where
  -- A source packet of an announced flow, with any ADU whose symbols fit the window.
  pub sources : (flow : ℕ) (adu : List ℕ) → announced flows flow ≡ true → length adu ≤ longest_adu → symbol_count s.size (length adu) ≤ s.width
      → ReadBy d (symbol_count s.size (length adu)) (source (base + d) (source_symbols flow adu s.size))
      (reading s flows base room (source-call flow (source_packet adu ((base + d) % 2 ^ 32))))
  -- A repair packet with any key and DT, over 1 to width symbols, with 1 to 16 repair symbols whose coefficients are drawn.
  pub repairs : (key dt n : ℕ) (symbols : List (List ℕ)) → key < 2 ^ 16 → dt ≤ 15 → 1 ≤ n → n ≤ s.width
      → Sized s.size symbols → 1 ≤ length symbols → length symbols ≤ 16 → all_ok s.scheme dt n (keys key (length symbols)) ≡ true
      → ReadBy d n (repair (base + d) n (lists_of s.scheme dt n (keys key (length symbols))) symbols)
      (reading s flows base room (repair-call (repair_packet key dt n ((base + d) % 2 ^ 32) symbols)))

abbrev pub Reads : Type 0
Reads =
    (s : Setting) → Valid s → (flows : List ℕ) (base room d : ℕ) → working_size s ≤ room → d < 2 ^ 32 → ReadAsWritten s flows base room d
