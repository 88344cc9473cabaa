-- Contracts of inner functions: a reader need not believe these.
use Rattle.std.specs.Prelude.{◌≡◌, ◌≤◌, ◌+◌, ◌≢◌, Result, Ok, Err}
use Rattle.words.specs.Words.{ℕ, length, List, Some, None, Option, take, cond, leb}
use Rattle.memory.specs.Part.{part, splice}
use Rattle.memory.specs.Contained.{Contained}
use Rattle.wire.specs.Numbers.{number_of}
use Rattle.wire.specs.declared.Refusal.TheVariants as refusals
use Rattle.decoder.specs.Bytes.{Coded}
use Rattle.decoder.specs.Model.{State, Row, Rref, insert}
use Rattle.decoder.specs.Receiver.{newly}
use Rattle.table.specs.declared.Shape.{Shape}
use Rattle.table.specs.Window.{header_size, stride, row_offset, row, equation, Window, Fits, Kept}
use Rattle.table.specs.Packet.{Works}
use Rattle.gather.specs.Gather.{Only}
use Rattle.history.specs.Symbol.{Symbol, bytes_of}
use Rattle.history.specs.History.{memory_size, working_size}
use Rattle.history.specs.Model.{shows, hides, Origins, bringing}
use Rattle.interpolation.specs.Lagrange.{lagranges}
use Rattle.blocks.specs.declared.Block.{Block}
use Rattle.blocks.specs.Block.{setting_for}
use Rattle.blocks.specs.Stored.{block_in}
use Rattle.block_receiver.specs.Model.{System, finding}
use Rattle.block_receiver.specs.Layout.{Holds, symbol_start}
use Rattle.origins.specs.Origins as origins
use Rattle.wire.specs.declared.Refusal.{Refusal}
use Rattle.holding.specs.declared.Spot.{Spot}

-- The block of a memory that is lent `room` bytes of working memory: 3, 2.
abbrev pub opened_for : Option Block → (room : ℕ) → Result Block Refusal
opened_for None room = Err refusals.Unopened
opened_for (Some b) room = cond (leb (working_size (setting_for b)) room) (Ok b) (Err refusals.Short)

-- The shape of a block's window.
abbrev pub shape_of : Block → Shape
shape_of b = record { width = b.k; size = b.size; oldest = 0 }

-- ---- Taking a packet

-- Working memory with the equation of an ESI and a symbol in its first row.
unfoldable pub row_with : (k esi : ℕ) (symbol v : List ℕ) → List ℕ
row_with k esi symbol v = splice (96 + k) symbol (splice 96 (lagranges k esi) v)

-- The equation in the first row of working memory.
abbrev pub first_row : (k E : ℕ) → List ℕ → Row (Coded E) k
first_row k E v = equation k E 0 (row k E 0 v)

-- The memory held the system S: it holds S with the equation e, by which n positions became known; or e contradicts S, and the memory is as it was.
abbrev pub Joins : (k E : ℕ) → Row (Coded E) k → State (Coded E) k → (m' : List ℕ) → Option ℕ → Type 0
Joins k E e S m' (Some n) =
    (T : State (Coded E) k) × (insert S e ≡ Some T) × Window k E m' 0 T × (n ≡ newly (record { base = 0; window = S }) (record { base = 0; window = T }))
Joins k E e S m' None = insert S e ≡ None

abbrev pub Left : (m m' : List ℕ) → Option ℕ → Type 0
Left m m' (Some n) = n ≤ 256
Left m m' None = m' ≡ m

pub record Inserted (k E : ℕ) (m m' v v' : List ℕ) (r : Option ℕ) : Type 0 where
  pub kept : Kept k E m m'
  pub only : Only (row_offset k E 0) (row_offset k E 0 + stride k E) v v'
  pub left : Left m m' r
  pub outcome : (S : State (Coded E) k) → Window k E m 0 S → Rref S → Joins k E (first_row k E v) S m' r

-- A memory and a working memory that a packet can be taken with.
pub record Ready (b : Block) (m v : List ℕ) : Type 0 where
  pub fits : Fits b.k b.size m
  pub works : Works b.k b.size 0 v
  pub memory : memory_size (setting_for b) ≤ length m

-- By what is answered.
abbrev pub TookTo : (b : Block) (first own : ℕ) (m m' v : List ℕ) → Result (ℕ × ℕ) Refusal → Type 0
TookTo b first own m m' v (Ok (n, d)) =
    (n ≤ 256) × (d ≡ 0)
    × ((S : System b) → Window b.k b.size m 0 S → Rref S → Joins b.k b.size (first_row b.k b.size v) S m' (Some n))
    × ((H : Origins) → origins.Hears b.k b.size 0 m H → origins.Hears b.k b.size 0 m' (bringing first own H))
TookTo b first own m m' v (Err r) =
    (r ≡ refusals.Contradiction) × (m' ≡ m)
    × ((S : System b) → Window b.k b.size m 0 S → Rref S → insert S (first_row b.k b.size v) ≡ None)

pub record Took (b : Block) (first own : ℕ) (m m' v v' : List ℕ) (a : Result (ℕ × ℕ) Refusal) : Type 0 where
  pub memory : Contained (memory_size (setting_for b)) m m'
  pub header : take header_size m' ≡ take header_size m
  pub only : Only (row_offset b.k b.size 0) (row_offset b.k b.size 0 + stride b.k b.size) v v'
  pub answer : TookTo b first own m m' v a

-- ---- Finding a symbol

-- Of a system that the memory holds, a spot is where the symbol stands, and nowhere is why it is not shown.
abbrev pub SpottedFor : (m : List ℕ) (e : ℕ) (b : Block) → System b → Result Spot Refusal → Type 0
SpottedFor m e b S (Ok spot) =
    (v : Symbol b.size) × (finding b S e ≡ shows e v) × (bytes_of b.size v ≡ part spot.at spot.size m) × (spot.at ≡ symbol_start b e) × (spot.size ≡ b.size)
SpottedFor m e b S (Err x) = finding b S e ≡ hides (number_of x)

-- Of any memory that was opened, a spot lies in it, and tells whether the symbol was heard.
abbrev pub InBounds : List ℕ → (e : ℕ) → Block → Result Spot Refusal → Type 0
InBounds m e b (Ok spot) =
    (spot.size ≡ b.size) × (spot.at + spot.size ≤ length m) × ((H : Origins) → origins.Hears b.k b.size 0 m H → spot.heard ≡ H e)
InBounds m e b (Err x) = number_of x ≢ 3

pub record Spotted (m : List ℕ) (e : ℕ) (f : Result Spot Refusal) : Type 0 where
  pub unopened : block_in 4 m ≡ None → f ≡ Err refusals.Unopened
  pub lies : (b : Block) → block_in 4 m ≡ Some b → InBounds m e b f
  pub told : (b : Block) (S : System b) → Holds m b S → SpottedFor m e b S f
