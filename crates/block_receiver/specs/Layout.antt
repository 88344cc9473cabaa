-- How the memory of a block that is recovered holds a system: a header of 96 bytes, then the rows of the k positions (crate `table`), then a byte for each
-- (crate `origins`), as a receiver of width k whose base is 0.
-- The claims hold of every layout: a reader of them need not believe this one.
use Rattle.std.specs.Prelude.{◌≡◌, ◌+◌}
use Rattle.words.specs.Words.{ℕ, List, Some}
use Rattle.decoder.specs.Model.{Rref}
use Rattle.table.specs.Window.{row_offset, Window}
use Rattle.history.specs.Model.{Origins}
use Rattle.blocks.specs.declared.Block.{Block}
use Rattle.blocks.specs.Stored.{block_in}
use Rattle.block_receiver.specs.Model.{System}
use Rattle.block_receiver.specs.Promises.{Layout}
use Rattle.origins.specs.Origins as origins

pub record Holds (m : List ℕ) (b : Block) (S : System b) : Type 0 where
  pub header : block_in 4 m ≡ Some b
  pub reduced : Rref S
  pub rows : Window b.k b.size m 0 S

abbrev pub Hears : List ℕ → (b : Block) → Origins → Type 0
Hears m b H = origins.Hears b.k b.size 0 m H

abbrev pub symbol_start : Block → (i : ℕ) → ℕ
symbol_start b i = row_offset b.k b.size i + b.k

abbrev pub block_layout : Layout
block_layout = record { Holds = Holds; Hears = Hears; symbol_start = symbol_start }
