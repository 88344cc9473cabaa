-- What the two ends of a block are opened with (document 02, No. 9), and what refusals 1 and 18 say of it.
use Rattle.std.specs.Prelude.{◌≤◌, ◌<◌, ◌&&◌, Result, Ok, Err}
use Rattle.words.specs.Words.{ℕ, Bool, cond, leb, ltb}
use Rattle.wire.specs.declared.Setting.{Setting}
use Rattle.wire.specs.declared.Scheme.TheVariants.{Gf256}
use Rattle.wire.specs.declared.Refusal.TheVariants as refusals
use Rattle.wire.specs.Numbers.{within}
use Rattle.blocks.specs.declared.Block.{Block}
use Rattle.wire.specs.declared.Refusal.{Refusal}

-- k source symbols, one at least; no fewer symbols in all, and at most 255; a block number of 24 bits. And as a test.
abbrev pub HaveValues : (k total number : ℕ) → Type 0
HaveValues k total number = (1 ≤ k) × (k ≤ total) × (total ≤ 255) × (number < 16777216)

unfoldable pub has_values : (k total number : ℕ) → Bool
has_values k total number = within 1 total k && (leb total 255 && ltb number 16777216)

-- The block that the four numbers of an opening name: refusal 1 where E is none of its values, else 18 where one of the others is not.
unfoldable pub block_of : (E k total number : ℕ) → Result Block Refusal
block_of E k total number =
    cond (within 4 1500 E)
    (cond (has_values k total number) (Ok (record { size = E; k = k; total = total; number = number })) (Err refusals.Block))
    (Err refusals.Values)

-- The values of a block.
pub record Valid (b : Block) : Type 0 where
  pub size_least : 4 ≤ b.size
  pub size_most : b.size ≤ 1500
  pub values : HaveValues b.k b.total b.number

-- The setting of the receiver whose memories a block's ends have: its width is k.
abbrev pub setting_for : Block → Setting
setting_for b = record { scheme = Gf256; size = b.size; width = b.k }
