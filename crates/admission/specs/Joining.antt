-- Contracts of inner functions: a reader need not believe these.
-- The header that a packet is worked on with, and the memory that has it.
use Rattle.std.specs.Prelude.{◌≡◌, ◌≤◌, ◌<◌, ◌%◌, ◌^◌}
use Rattle.words.specs.Words.{ℕ, length, List, Some, true, cond}
use Rattle.wire.specs.Settings.{Valid}
use Rattle.wire.specs.Stored.{setting_in}
use Rattle.history.specs.History.{memory_size}
use Rattle.holding.specs.declared.Header.{Header}

-- The header for a packet whose first ESI is e: where there is no base yet, e is taken for it.
abbrev pub header_for : Header → (e : ℕ) → Header
header_for h e = record {
  setting = h.setting;
  joined = true;
  oldest = cond h.joined h.oldest (e % h.setting.width);
  esi = cond h.joined h.esi (record { 0 = e % 2 ^ 32 });
}

-- The memory has the setting of a header with a base, and room for its rows.
pub record Based (m : List ℕ) (h : Header) : Type 0 where
  pub setting : setting_in 2 m ≡ Some h.setting
  pub valid : Valid h.setting
  pub room : memory_size h.setting ≤ length m
  pub row_lt : h.oldest < h.setting.width
