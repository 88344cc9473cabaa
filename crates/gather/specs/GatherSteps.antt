-- Contracts of inner functions: a reader need not believe these.
-- An equation is reduced by the state's rows and by the packet's, and its oldest coefficient is found and made one.
use Rattle.std.specs.Prelude.{◌≡◌, ◌≤◌, ◌+◌, ◌<◌, ◌%◌, ◌≢◌}
use Rattle.words.specs.Words.{ℕ, List, length, true, get_or, false, Bool, Option, Some, None}
use Rattle.field.specs.Powers.{inverse}
use Rattle.memory.specs.Part.{part, splice}
use Rattle.memory.specs.Number.{Bytes}
use Rattle.rows.specs.Rows.{add_scaled, scaled}
use Rattle.rows.specs.Combination.{coefficient}
use Rattle.rows.specs.Sums.{combined, row_at}
use Rattle.decoder.specs.Bytes.{byte, Coded}
use Rattle.decoder.specs.Model.{lead, symbol, scale}
use Rattle.decoder.specs.TableSteps.{scale_line}
use Rattle.decoder.specs.Chain.{eliminate}
use Rattle.table.specs.Window.{header_size, stride, row_offset, row, in_use, line}
use Rattle.table.specs.Packet.{Works, spelled, PivotMarked}
use Rattle.gather.specs.Gather.{Only, count_kept}
use Rattle.gather.specs.declared.Verdict.{Verdict}
use Rattle.gather.specs.declared.Verdict.TheVariants.{Kept, Implied, Contradiction}

-- `k` if the state has the row, else zero.
abbrev pub if_used : Bool → ℕ → ℕ
if_used true k = k
if_used false k = 0

-- What the state's row of the column `c` is added with to the equation `l`.
abbrev pub multiplier : (w E c : ℕ) (m l : List ℕ) → ℕ
multiplier w E c m l = if_used (in_use w E (row w E c m)) (get_or l c 0)

-- Every byte is zero.
abbrev pub Zeros : List ℕ → Type 0
Zeros l = (i : ℕ) → get_or l i 0 ≡ 0

-- The multipliers for the `n` columns from `first` on have been stored; `any` is false only if all are zero.
pub record Collected (w E first n : ℕ) (any : Bool) (m l cs cs' : List ℕ) : Type 0 where
  pub size : length cs' ≡ length cs
  pub on : (i : ℕ) → i < n → get_or cs' ((first + i) % w) 0 ≡ multiplier w E ((first + i) % w) m l
  pub off : (j : ℕ) → ((i : ℕ) → i < n → (first + i) % w ≢ j) → get_or cs' j 0 ≡ get_or cs j 0
  pub small : Bytes cs'
  pub none : any ≡ false → (i : ℕ) → i < n → multiplier w E ((first + i) % w) m l ≡ 0

-- The sum of the state's rows, each times its multiplier of `cs`, has been added to the row `k` of working memory.
abbrev pub RowsAdded : (w E k : ℕ) (cs m work work' : List ℕ) → Type 0
RowsAdded w E k cs m work work' =
    work' ≡ splice (row_offset w E k) (combined (coefficient cs) (row_at m header_size (stride w E) (w + E)) w (part (row_offset w E k) (w + E) work)) work

-- So it has with multipliers by column: those for the `n` columns from `first` on, and else zero.
pub record StateReduced (w E k first n : ℕ) (m work work' : List ℕ) : Type 0 where
  pub multipliers : List ℕ
  pub small : Bytes multipliers
  pub on : (i : ℕ) → i < n → get_or multipliers ((first + i) % w) 0 ≡ multiplier w E ((first + i) % w) m (row w E k work)
  pub off : (j : ℕ) → j < w → ((i : ℕ) → i < n → (first + i) % w ≢ j) → get_or multipliers j 0 ≡ 0
  pub sum : RowsAdded w E k multipliers m work work'

-- Where `any` is false, the row `k` of working memory is zero.
abbrev pub ZeroIf : (w E k : ℕ) → Bool → List ℕ → Type 0
ZeroIf w E k any work = any ≡ false → (i : ℕ) → i < w + E → get_or work (row_offset w E k + i) 0 ≡ 0

-- The pivot of the row `j` of working memory has been eliminated from the row `k`.
abbrev pub Eliminated : (w E k j : ℕ) (work work' : List ℕ) → Type 0
Eliminated w E k j work work' =
    work' ≡ splice (row_offset w E k)
    (add_scaled (get_or (row w E k work) (get_or (row w E j work) (w + E) 0) 0) (part (row_offset w E k) (w + E) work) (part (row_offset w E j) (w + E) work)) work

-- The pivots of the first `j` rows of working memory have been eliminated from the row `k`.
pub record PacketReduced (w E k j : ℕ) (work work' : List ℕ) : Type 0 where
  pub only : Only (row_offset w E k) (row_offset w E k + (w + E)) work work'
  pub sum : (b : ℕ) → ((i : ℕ) → i < k → PivotMarked w E b (row w E i work))
      → spelled w E b work' k ≡ eliminate (Coded E) w (spelled w E b work) j (spelled w E b work k)

-- The first coefficient of a row stands in the `i`th of the columns from `first` on, around the window; `w` if there is none.
pub record Leading (w first i : ℕ) (l : List ℕ) : Type 0 where
  pub within : i ≤ w
  pub before : (j : ℕ) → j < i → get_or l ((first + j) % w) 0 ≡ 0
  pub here : i < w → get_or l ((first + i) % w) 0 ≢ 0

-- The pivot found is that of the first of the rows from `from` on and before `to` that has one.
abbrev pub Searched : (w E first from to : ℕ) → Option (ℕ × ℕ) → List ℕ → Type 0
Searched w E first from to (Some (r, c)) work =
    (i : ℕ) × (i < w) × (c ≡ (first + i) % w) × (from ≤ r) × (r < to) × ((k : ℕ) → from ≤ k → k < r → Leading w first w (row w E k work))
    × Leading w first i (row w E r work)
Searched w E first from to None work = (k : ℕ) → from ≤ k → k < to → Leading w first w (row w E k work)

-- The `n` bytes from `at` on have been divided by `k`.
abbrev pub Divided : (at n k : ℕ) (work work' : List ℕ) → Type 0
Divided at n k work work' = work' ≡ splice at (scaled (inverse k) (part at n work)) work

-- The row `k` has been divided by its coefficient in the column `c`, and this is in its flag.
pub record Normalised (w E k c : ℕ) (work work' : List ℕ) : Type 0 where
  pub only : Only (row_offset w E k) (row_offset w E k + (w + E + 1)) work work'
  pub scaled : line w E (row w E k work') ≡ scale_line (byte (inverse (get_or (row w E k work) c 0))) (line w E (row w E k work))
  pub flag : get_or (row w E k work') (w + E) 0 ≡ c

-- The reduced equation in the row `k` has become a row that leads with one, or has no coefficient. In the row `w` no coefficient is looked for.
abbrev pub Outcome : (w E b k : ℕ) (work work' : List ℕ) → Verdict → Type 0
Outcome w E b k work work' Kept =
    (lead (Coded E) w (spelled w E b work k) ≢ (Coded E).𝟘)
    × (spelled w E b work' k ≡ scale (Coded E) w ((Coded E).inv (lead (Coded E) w (spelled w E b work k))) (spelled w E b work k))
    × PivotMarked w E b (row w E k work')
Outcome w E b k work work' Implied =
    (k < w → lead (Coded E) w (spelled w E b work k) ≡ (Coded E).𝟘) × (symbol (Coded E) w (spelled w E b work k) ≡ (Coded E).null)
Outcome w E b k work work' Contradiction =
    (k < w → lead (Coded E) w (spelled w E b work k) ≡ (Coded E).𝟘) × (symbol (Coded E) w (spelled w E b work k) ≢ (Coded E).null)

-- So it is where the row has no coefficient at the positions before that of the column `first`.
pub record Concluded (w E first k : ℕ) (verdict : Verdict) (work work' : List ℕ) : Type 0 where
  pub only : Only (row_offset w E k) (row_offset w E k + (w + E + 1)) work work'
  pub works : Works w E (count_kept k verdict) work'
  pub outcome : (b d : ℕ) → d < w → (b + d) % w ≡ first
      → ((j : ℕ) → b ≤ j → j < b + d → (line w E (row w E k work)).cells j ≡ (Coded E).𝟘) → Outcome w E b k work work' verdict

-- `n` is how many of the `count` columns from `first` on are of the first `stay` positions of the window.
pub record Staying (w oldest first count stay n : ℕ) : Type 0 where
  pub distance : ℕ
  pub near : distance < w
  pub column : (oldest + distance) % w ≡ first
  pub few : n ≤ count
  pub stays : (i : ℕ) → i < n → distance + i < stay
  pub all : (i : ℕ) → i < count → distance + i < stay → i < n
