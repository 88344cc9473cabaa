-- The header at the front of a memory that was opened for a block: kind (3 encodes it, 4 recovers it), scheme, E and k as a receiver's setting stands there,
-- then the total, the number of ADUs taken and the block number. Refusal 3 is found by these definitions.
use Rattle.std.specs.Prelude.{◌++◌}
use Rattle.std.specs.Result.{result_ok}
use Rattle.words.specs.Words.{ℕ, List, length, Some, None, Option, cond, leb}
use Rattle.memory.specs.Part.{part}
use Rattle.memory.specs.Number.{number, bytes}
use Rattle.wire.specs.declared.Setting.{Setting}
use Rattle.wire.specs.Stored.{setting_in, setting_bytes}
use Rattle.history.specs.History.{memory_size}
use Rattle.blocks.specs.declared.Block.{Block}
use Rattle.blocks.specs.Block.{block_of, setting_for}

-- The block of a setting: none where the memory is too short for it, or the other numbers are none of their values.
abbrev pub block_with : List ℕ → Option Setting → Option Block
block_with m None = None
block_with m (Some s) =
    cond (leb (memory_size s) (length m)) (result_ok (block_of s.size s.width (number (part 8 2 m)) (number (part 12 4 m)))) None

-- The block that a memory was opened for; refusal 3 where there is none.
unfoldable pub block_in : (kind : ℕ) → List ℕ → Option Block
block_in kind m = block_with m (setting_in kind m)

-- How many ADUs it has taken, where it encodes.
unfoldable pub taken_in : List ℕ → ℕ
taken_in m = number (part 10 2 m)

-- The bytes of the header, of a block that has taken none.
unfoldable pub block_bytes : (kind : ℕ) → Block → List ℕ
block_bytes kind b = setting_bytes kind (setting_for b) ++ (bytes 2 b.total ++ (bytes 2 0 ++ bytes 4 b.number))
