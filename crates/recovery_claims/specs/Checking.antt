-- The checks before 11 a second time, in plain numbers: what opening and the packet calls refuse, in which order (document 02, No. 9). An identifier is read
-- from six bytes: block number, ESI, number of source symbols.
use Rattle.std.specs.Prelude.{◌≡◌, ◌≤◌, ◌+◌, ◌<◌, ◌-◌, ◌*◌, Result}
use Rattle.words.specs.Words.{ℕ, length, List, get_or}
use Rattle.memory.specs.Part.{part}
use Rattle.wire.specs.Answers.{said}
use Rattle.wire.specs.Opening.{working_memory}
use Rattle.wire.specs.Packets.{symbol_at}
use Rattle.history.specs.History.{source-call, repair-call, OfBytes}
use Rattle.blocks.specs.declared.Block.{Block}
use Rattle.encoder_claims.specs.Judged.{OpeningJudged}
use Rattle.block_receiver.specs.Reading.{fails, located, reading}
use Rattle.block_receiver.specs.Promises.{Layout, Opened}
use Rattle.wire.specs.declared.Refusal.{Refusal}

-- Opening answers and leaves what an encoder's does: 1, 18, 2, else 0.
abbrev pub OpeningIsJudged : Layout → Type 0
OpeningIsJudged L =
    (E k total number : ℕ) (m m' : List ℕ) (a : Result ℕ Refusal) → Opened L E k total number m m' a → OpeningJudged E k total number m (said a) m'

-- The six bytes of an identifier from a place on name this block and this ESI.
pub record Names (b : Block) (p : List ℕ) (at esi : ℕ) : Type 0 where
  pub number : get_or p at 0 * 65536 + get_or p (at + 1) 0 * 256 + get_or p (at + 2) 0 ≡ b.number
  pub symbol : get_or p (at + 3) 0 ≡ esi
  pub k : get_or p (at + 4) 0 * 256 + get_or p (at + 5) 0 ≡ b.k

-- A source packet, with `room` bytes of working memory: 2, 5, 18, 4, else its symbol, flow, length and ADU first.
pub record SourceChecked (b : Block) (room flow : ℕ) (p : List ℕ) : Type 0 where
  pub short : room < working_memory b.size b.k → reading b room (source-call flow p) ≡ fails 2
  pub form : working_memory b.size b.k ≤ room → length p < 6 → reading b room (source-call flow p) ≡ fails 5
  pub named : working_memory b.size b.k ≤ room → 6 ≤ length p → ¬ ((esi : ℕ) × Names b p (length p - 6) esi × (esi < b.k))
      → reading b room (source-call flow p) ≡ fails 18
  pub long : working_memory b.size b.k ≤ room → 6 ≤ length p → (esi : ℕ) → Names b p (length p - 6) esi → esi < b.k → b.size < 3 + (length p - 6)
      → reading b room (source-call flow p) ≡ fails 4
  pub passes : working_memory b.size b.k ≤ room → 6 ≤ length p → (esi : ℕ) → Names b p (length p - 6) esi → esi < b.k → 3 + (length p - 6) ≤ b.size
      → reading b room (source-call flow p) ≡ located (record { esi = esi; symbol = symbol_at flow (part 0 (length p - 6) p) b.size 0 })

-- A repair packet: 2, 5, 18, else its symbol.
pub record RepairChecked (b : Block) (room : ℕ) (p : List ℕ) : Type 0 where
  pub short : room < working_memory b.size b.k → reading b room (repair-call p) ≡ fails 2
  pub form : working_memory b.size b.k ≤ room → ¬ (length p ≡ 6 + b.size) → reading b room (repair-call p) ≡ fails 5
  pub named : working_memory b.size b.k ≤ room → length p ≡ 6 + b.size → ¬ ((esi : ℕ) × Names b p 0 esi × (b.k ≤ esi) × (esi < b.total))
      → reading b room (repair-call p) ≡ fails 18
  pub passes : working_memory b.size b.k ≤ room → length p ≡ 6 + b.size → (esi : ℕ) → Names b p 0 esi → b.k ≤ esi → esi < b.total
      → reading b room (repair-call p) ≡ located (record { esi = esi; symbol = part 6 b.size p })

pub record AllChecked : Type 0 where
  pub source : (b : Block) (room flow : ℕ) (p : List ℕ) → OfBytes (source-call flow p) → SourceChecked b room flow p
  pub repair : (b : Block) (room : ℕ) (p : List ℕ) → OfBytes (repair-call p) → RepairChecked b room p
