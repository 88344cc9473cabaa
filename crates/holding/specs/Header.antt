-- The header at the front of a receiver's memory, and the test that refusal 3 stands for.
use Rattle.std.specs.Prelude.{◌-◌, ◌&&◌}
use Rattle.words.specs.Words.{ℕ, List, length, Some, None, Option, cond, ltb, leb}
use Rattle.memory.specs.Part.{part}
use Rattle.memory.specs.Number.{number}
use Rattle.wire.specs.declared.Setting.{Setting}
use Rattle.wire.specs.Stored.{setting_in}
use Rattle.holding.specs.declared.Header.{Header}
use Rattle.history.specs.History.{memory_size}

-- bytes 8 and 9 of a receiver's memory: 0 before any base, else one more than the row of the base
abbrev pub row_in : List ℕ → ℕ
row_in m = number (part 8 2 m)

-- the header of a receiver of the setting: whether there is a base, and its row and ESI; none where the memory is too short for the setting, or has
-- no such row
abbrev pub header_with : List ℕ → Option Setting → Option Header
header_with m None = None
header_with m (Some s) =
    cond (leb (memory_size s) (length m) && leb (row_in m) s.width)
    (Some (record { setting = s; joined = ltb 0 (row_in m); oldest = row_in m - 1; esi = record { 0 = number (part 12 4 m) } })) None

-- the receiver's header at the front of a memory (a receiver is of kind 2); refusal 3 where there is none
unfoldable pub header_in : List ℕ → Option Header
header_in m = header_with m (setting_in 2 m)
