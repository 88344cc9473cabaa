-- Contracts of inner functions: a reader need not believe these.
-- The steps of a packet call: the packet's place, its equations in working memory, and the state after it.
use Rattle.std.specs.Prelude.{◌≡◌, ◌≤◌, ◌+◌, ◌<◌, ◌-◌, ◌%◌, ◌∷◌, ◌*◌, ◌++◌, Result, Ok, Err}
use Rattle.words.specs.Words.{ℕ, length, List, [], Some, suc, zero, None, get_or, leb, cond, Option}
use Rattle.wire.specs.declared.Setting.{Setting}
use Rattle.wire.specs.declared.Refusal.TheVariants.{Behind, Ahead}
use Rattle.decoder.specs.Bytes.{Coded}
use Rattle.decoder.specs.Stretch.{symbol_cut_at}
use Rattle.gather.specs.declared.Verdict.{Verdict}
use Rattle.table.specs.Window.{row_offset, row, equation, Window}
use Rattle.gather.specs.Gather.{Laid}
use Rattle.starts.specs.Starts.{Starts, owning, moved, pass, seen}
use Rattle.marks.specs.Marks.{flag_at}
use Rattle.holding.specs.declared.Header.{Header}
use Rattle.admission.specs.declared.packet.Location.{Location}
use Rattle.history.specs.Symbol.{Symbol}
use Rattle.history.specs.History.{memory_size, Side, behind, ahead, side_of, farthest}
use Rattle.history.specs.Model.{Joined, Origins, bringing}
use Rattle.origins.specs.Origins.{Hears}
use Rattle.memory.specs.Contained.{Contained}
use Rattle.holding.specs.Layout.{header_from, Stands, Holds, MarksFrom}
use Rattle.decoder.specs.Model as model
use Rattle.decoder.specs.Receiver as decoder
use Rattle.gather.specs.declared.Verdict.TheVariants as verdict
use Rattle.table.specs.Packet as packet
use Rattle.wire.specs.declared.Refusal.{Refusal}

-- ---- The packet's place

-- Where n symbols lie, the first of them d positions past the base.
abbrev pub location_at : Header → (d n : ℕ) → Location
location_at h d n =
    let width = h.setting.width in
    let rise = d + n - width in
    record {
      shape = record { width = width; size = h.setting.size; oldest = (h.oldest + rise) % width };
      rise = rise;
      stay = width - rise;
      first = (h.oldest + d) % width;
      offset = d - rise;
    }

-- Where n symbols lie, the first of them on a side of the base: refusals 8 and 9; and the first of them with the ESI e.
abbrev pub location_on : Header → (n : ℕ) → Side → Result Location Refusal
location_on h n behind = Err Behind
location_on h n (ahead d) = cond (leb (d + n) farthest) (Ok (location_at h d n)) (Err Ahead)

unfoldable pub location_found : Header → (e n : ℕ) → Result Location Refusal
location_found h e n = location_on h n (side_of h.esi.0 e)

-- ---- The packet's equations

-- What the equations come to with one more.
abbrev pub gathered_by : ℕ → Verdict → Option ℕ
gathered_by kept verdict.Kept = Some (kept + 1)
gathered_by kept verdict.Implied = Some kept
gathered_by kept verdict.Contradiction = None

-- What the equations `es` come to: the system S agrees with them, and working memory keeps rows of them; or they contradict it.
abbrev pub Comes : (w E b : ℕ) (S : model.State (Coded E) w) (work : List ℕ) (es : List (model.Row (Coded E) w)) → Option ℕ → Type 0
Comes w E b S work es (Some kept) = packet.Gathered w E b S work kept es
Comes w E b S work es None = decoder.insert_all es S ≡ None

-- The rows that are kept have their columns.
abbrev pub WorksOn : (w E : ℕ) (work : List ℕ) → Option ℕ → Type 0
WorksOn w E work (Some kept) = packet.Works w E kept work
WorksOn w E work None = Unit {0}

-- A row with these coefficients, laid from the column `first` on, and with this symbol spells the equation e over the window from b on.
abbrev pub Spells : (w E b first : ℕ) (cs : List ℕ) (v : Symbol E) → model.Row (Coded E) w → Type 0
Spells w E b first cs v e = (l : List ℕ) → Laid w first cs l → symbol_cut_at E w l ≡ v → equation w E b l ≡ e

-- The first n of the equations g.
unfoldable pub firsts : {A : Type 0} → (ℕ → A) → ℕ → List A
firsts g zero = []
firsts g (suc n) = firsts g n ++ (g n ∷ [])

-- In the window from b on, the packet's place has n columns from `first` on for the positions from the d-th of the new window on.
pub record Lies (at : Location) (first n b d : ℕ) : Type 0 where
  pub base : (b + at.rise) % at.shape.width ≡ at.shape.oldest
  pub stay : at.stay ≡ at.shape.width - at.rise
  pub column : (b + at.rise + d) % at.shape.width ≡ first
  pub some : 0 < n
  pub room : d + n ≤ at.shape.width

module _ (at : Location) where
  abbrev w : ℕ
  w = at.shape.width

  abbrev E : ℕ
  E = at.shape.size

  -- An equation with the coefficients `cs` from the column `first` on, and the symbol of the row `kept`, has been admitted or refused, after
  -- others of which `kept` rows are kept.
  pub record EquationAdmitted (kept first : ℕ) (cs : List ℕ) (r : Option ℕ) (m work work' : List ℕ) : Type 0 where
    pub contained : Contained (row_offset w E (w + 1)) work work'
    pub works : WorksOn w E work' r
    pub outcome : (b d : ℕ) (S : model.State (Coded E) w) (es : List (model.Row (Coded E) w)) (e : model.Row (Coded E) w) → Lies at first (length cs) b d
        → Window w E m b S → model.Rref S → Spells w E (b + at.rise) first cs (symbol_cut_at E w (row w E kept work)) e
        → packet.Gathered w E (b + at.rise) (decoder.advance_by at.rise S) work kept es
        → Comes w E (b + at.rise) (decoder.advance_by at.rise S) work' (es ++ (e ∷ [])) r

  -- The next equation of a packet of n positions, which is e d where these are from the d-th of the window on, has been admitted or refused.
  pub record Admits (n : ℕ) (e : ℕ → model.Row (Coded E) w) (kept : ℕ) (r : Option ℕ) (m work work' : List ℕ) : Type 0 where
    pub contained : Contained (row_offset w E (w + 1)) work work'
    pub works : WorksOn w E work' r
    pub outcome : (b d : ℕ) (S : model.State (Coded E) w) (es : List (model.Row (Coded E) w)) → Lies at at.first n b d
        → Window w E m b S → model.Rref S → packet.Gathered w E (b + at.rise) (decoder.advance_by at.rise S) work kept es
        → Comes w E (b + at.rise) (decoder.advance_by at.rise S) work' (es ++ (e d ∷ [])) r

  -- The first i of its equations g d have been admitted, or one of them refused.
  pub record Gathers (n : ℕ) (g : ℕ → ℕ → model.Row (Coded E) w) (i : ℕ) (r : Option ℕ) (m work work' : List ℕ) : Type 0 where
    pub contained : Contained (row_offset w E (w + 1)) work work'
    pub works : WorksOn w E work' r
    pub outcome : (b d : ℕ) (S : model.State (Coded E) w) → Lies at at.first n b d → Window w E m b S → model.Rref S
        → Comes w E (b + at.rise) (decoder.advance_by at.rise S) work' (firsts (g d) i) r

-- ---- The state after the packet

-- The marks, and the bytes of the header that they have, are as they were.
pub record SameMarks (w E : ℕ) (m m' : List ℕ) : Type 0 where
  pub header : (k : ℕ) → 10 ≤ k → k < 12 → get_or m' k 0 ≡ get_or m k 0
  pub rows : (r : ℕ) → r < w → get_or m' (flag_at w E r) 0 ≡ get_or m (flag_at w E r) 0

-- What stands past the rows is as it was.
abbrev pub SamePast : (w E : ℕ) (m m' : List ℕ) → Type 0
SamePast w E m m' = (k : ℕ) → row_offset w E w ≤ k → get_or m' k 0 ≡ get_or m k 0

-- The bytes of the flows are as they were.
abbrev pub SameFlows : (m m' : List ℕ) → Type 0
SameFlows m m' = (k : ℕ) → 32 ≤ k → k < 64 → get_or m' k 0 ≡ get_or m k 0

-- The place is one by the header, with room for `own` symbols from its offset on.
pub record LocatedBy (h : Header) (at : Location) (own : ℕ) : Type 0 where
  pub width : at.shape.width ≡ h.setting.width
  pub size : at.shape.size ≡ h.setting.size
  pub base : at.shape.oldest ≡ (h.oldest + at.rise) % at.shape.width
  pub stay : at.stay ≡ at.shape.width - at.rise
  pub room : at.offset + own ≤ at.shape.width

-- The packet's rows in working memory have joined the state's, and the base has risen: the memory holds what the model says of the equations
-- `es` of which these rows are, and `count` positions have become known, on any memory no more than 256 for a row.
pub record Finished (h : Header) (at : Location) (kept count : ℕ) (work m m' : List ℕ) : Type 0 where
  pub contained : Contained (memory_size h.setting) m m'
  pub marks : SameMarks h.setting.width h.setting.size m m'
  pub past : SamePast h.setting.width h.setting.size m m'
  pub flows : SameFlows m m'
  pub most : count ≤ kept * 256
  pub outcome : (s : Setting) (t : Joined s) (es : List (model.Row (Coded s.size) s.width)) → h ≡ header_from s t → Stands m s t
      → at.shape.oldest ≡ (t.base + at.rise) % s.width
      → packet.Gathered s.width s.size (t.base + at.rise) (decoder.advance_by at.rise t.window) work kept es
      → (T : model.State (Coded s.size) s.width) × (decoder.insert_all es (decoder.advance_by at.rise t.window) ≡ Some T)
      × Holds m' s (Some (record { base = t.base + at.rise; window = T }))
      × (count ≡ decoder.newly t (record { base = t.base + at.rise; window = T }))

-- And the marks are those that the packet with `own` symbols of its own makes.
pub record Marked (h : Header) (at : Location) (kept own count : ℕ) (work m m' : List ℕ) : Type 0 where
  pub contained : Contained (memory_size h.setting) m m'
  pub most : count ≤ kept * 256
  pub outcome : (s : Setting) (t : Joined s) (es : List (model.Row (Coded s.size) s.width)) → h ≡ header_from s t → Stands m s t
      → at.shape.oldest ≡ (t.base + at.rise) % s.width
      → packet.Gathered s.width s.size (t.base + at.rise) (decoder.advance_by at.rise t.window) work kept es
      → (T : model.State (Coded s.size) s.width) × (decoder.insert_all es (decoder.advance_by at.rise t.window) ≡ Some T)
      × Holds m' s (Some (record { base = t.base + at.rise; window = T }))
      × (count ≡ decoder.newly t (record { base = t.base + at.rise; window = T }))
      × ((M : Starts) → MarksFrom m s t M → MarksFrom m' s (record { base = t.base + at.rise; window = T })
      (pass s.size (seen s.size s.width T) s.width (owning at.offset own (moved s.width at.rise M))))

-- And the packet has brought its own symbols; the flows are as they were.
pub record Accepted (h : Header) (at : Location) (kept own count : ℕ) (work m m' : List ℕ) : Type 0 where
  pub marked : Marked h at kept own count work m m'
  pub flows : SameFlows m m'
  pub hears : (b : ℕ) (H : Origins) → b % h.setting.width ≡ h.oldest → Hears h.setting.width h.setting.size b m H
      → Hears h.setting.width h.setting.size (b + at.rise) m' (bringing (b + at.rise + at.offset) own H)
