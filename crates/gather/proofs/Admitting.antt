-- A reduced equation settled, and what that says of the packet's equations.
-- A row divided by its coefficient in a column: divided_one, normalised.
-- What becomes of a reduced equation: settled_kept, settled_implied, settled_contradiction.
-- The packet's rows: gathered_same, gathered_only, gathered_none. The whole call: admitted, admitted_zero.
use Rattle.std.specs.Prelude.{◌≡◌, ◌≤◌, ◌+◌, ◌<◌, ◌-◌, ◌%◌, ◌∷◌, ◌++◌, ◌≢◌}
use Rattle.words.specs.Words.{arith, ℕ, List, length, refl, ◌∙◌, sym, ap, [], Some, get_or, subst, mod-lt}
use Rattle.words.specs.Words.{ℕ_discrete, dec_lt, add-one, mod-add-mod, set, add-mod_right, lit<, Bool, false}
use Rattle.field.specs.Gf256.{product}
use Rattle.field.specs.Powers.{inverse}
use Rattle.field.proofs.Laws.{inverse-lt, inverse-is, product-one}
use Rattle.memory.specs.Part.{part, splice}
use Rattle.memory.specs.Number.{Bytes}
use Rattle.memory.proofs.Parts.{length_part, length-splice, get_or-part, get_or-before, get_or-within, splice-part}
use Rattle.rows.specs.Rows.{scaled}
use Rattle.rows.proofs.Sums.{length-scaled, get_or-scaled, scaled-one}
use Rattle.decoder.specs.Field.{Laws}
use Rattle.decoder.specs.Bytes.{byte, Coded}
use Rattle.decoder.specs.Model.{Row, State, Rref, scale, lead, symbol, reduce}
use Rattle.decoder.specs.Receiver.{advance_by, insert_all}
use Rattle.decoder.specs.Table.{read}
use Rattle.decoder.specs.TableSteps.{Leads, scale_line}
use Rattle.decoder.specs.Chain.{Chain, place_rows, eliminate}
use Rattle.decoder.proofs.Bytes.{byte-inverse, laws, byte-zero, byte_nonzero}
use Rattle.decoder.proofs.Stretch.{line_scale, symbol_null, symbol_nonnull}
use Rattle.decoder.proofs.Chain.{chain_none, chain_same, place_rows_same, eliminate_same, chain_reduce, normal, packet_implied, packet_contradicts}
use Rattle.decoder.proofs.Chain.{packet_places}
use Rattle.decoder.proofs.Combining.{normal_line}
use Rattle.decoder.proofs.Refine.{lead_read, lead_none}
use Rattle.decoder.proofs.Steps.{symbol_read, leads_scaled}
use Rattle.table.specs.Window.{stride, row_offset, row, line, equation, Window, Fits}
use Rattle.table.specs.Packet.{Works, spelled, PivotMarked, Gathered}
use Rattle.table.specs.RowSteps.{ZeroFrom}
use Rattle.gather.specs.Gather.{Only, Spans, Agrees, Admitted}
use Rattle.gather.specs.GatherSteps.{Leading, Divided, Normalised, Outcome, Concluded, StateReduced, ZeroIf, PacketReduced, Staying}
use Rattle.gather.specs.declared.Verdict.{Verdict}
use Rattle.gather.specs.declared.Verdict.TheVariants.{Kept, Implied, Contradiction}
use Rattle.table.proofs.Rows.{set-splice}
use Rattle.table.proofs.Zero.{else_zero}
use Rattle.table.proofs.Offsets.{flags_fit}
use Rattle.memory.proofs.Number.{bytes-part}
use Rattle.gather.proofs.Framing.{only_refl, only_trans, only_wider, only-splice, only_row, works_only, row_room}
use Rattle.gather.proofs.Reducing.{part-row, state_only, state_reduced, no_coefficient, packet-none}
use Rattle.gather.proofs.Searching.{leading_none}
use Rattle.gather.proofs.Rank.{full_lead}
use Rattle.gather.proofs.Front.{Front, reduce_front, read_front, front_read}

-- ---- a row divided by its coefficient in a column

-- Nothing is to be done for one.
pub divided_one : (at n k : ℕ) (m : List ℕ) → k ≡ 1 → at + n ≤ length m → Bytes m → Divided at n k m m
divided_one at n k m e h bytes =
    let one : inverse k ≡ 1 = ap inverse e ∙ inverse-is 1 1 (lit< tt) (product-one 1 (lit< tt)) in
    sym (splice-part at n m h)
    ∙ ap (λ x. splice at x m) (sym (ap (λ x. scaled x (part at n m)) one ∙ scaled-one (part at n m) (bytes-part at n m bytes)))

-- The code divides the row from `at` on, and stores the column as its flag.
module _ (w E k c at : ℕ) (m m₁ m' : List ℕ) (g : Works w E k m) (h : c < w) (bytes : Bytes m) (here : at ≡ row_offset w E k)
    (p : Divided at (w + E) (get_or m (at + c) 0) m m₁) (q : m' ≡ set m₁ (at + (w + E)) c) where
  abbrev factor : ℕ
  factor = inverse (get_or (row w E k m) c 0)

  abbrev divided : List ℕ
  divided = scaled factor (part (row_offset w E k) (w + E) m)

  room : row_offset w E k + stride w E ≤ length m
  room = row_room w E k m g

  length-part_k : length (part (row_offset w E k) (w + E) m) ≡ w + E
  length-part_k = length_part (row_offset w E k) (w + E) m (omega (arith, flags_fit w E, room))

  length_divided : length divided ≡ w + E
  length_divided = length-scaled factor (part (row_offset w E k) (w + E) m) ∙ length-part_k

  first : m₁ ≡ splice (row_offset w E k) divided m
  first =
      p
      ∙ ap (λ a. splice a (scaled (inverse (get_or m (a + c) 0)) (part a (w + E) m)) m) here
      ∙ ap (λ x. splice (row_offset w E k) (scaled (inverse x) (part (row_offset w E k) (w + E) m)) m)
      (sym (get_or-part (row_offset w E k) (stride w E) c m (omega (arith, flags_fit w E))))

  size : length m₁ ≡ length m
  size = ap length first ∙ length-splice (row_offset w E k) divided m (omega (arith, flags_fit w E, length_divided, room))

  second : m' ≡ splice (row_offset w E k + (w + E)) (c ∷ []) m₁
  second = q ∙ ap (λ a. set m₁ (a + (w + E)) c) here ∙ set-splice m₁ (row_offset w E k + (w + E)) c (omega (arith, flags_fit w E, size, room))

  cell : (i : ℕ) → i < w + E → get_or (row w E k m') i 0 ≡ get_or divided i 0
  cell i l =
      get_or-part (row_offset w E k) (stride w E) i m' (omega (arith, flags_fit w E))
      ∙ ap (λ x. get_or x (row_offset w E k + i) 0) second
      ∙ get_or-before (row_offset w E k + i) (row_offset w E k + (w + E)) (c ∷ []) m₁ (omega arith) (omega (arith, flags_fit w E, size, room))
      ∙ ap (λ x. get_or x (row_offset w E k + i) 0) first
      ∙ get_or-within (row_offset w E k) i divided m (omega (arith, length_divided)) (omega (arith, room))

  pub normalised : Normalised w E k c m m'
  normalised = record {
    only =
        only_trans
        (subst (Only (row_offset w E k) (row_offset w E k + (w + E + 1)) m) (sym first)
        (only-splice (row_offset w E k) (row_offset w E k + (w + E + 1)) (row_offset w E k) divided m (omega arith) (omega (arith, length_divided))
        (omega (arith, flags_fit w E, room))))
        (subst (Only (row_offset w E k) (row_offset w E k + (w + E + 1)) m₁) (sym second)
        (only-splice (row_offset w E k) (row_offset w E k + (w + E + 1)) (row_offset w E k + (w + E)) (c ∷ []) m₁ (omega arith) (omega arith)
        (omega (arith, flags_fit w E, size, room))));
    scaled =
        line_scale w E g.some_width factor (row w E k m) (row w E k m') (bytes-part (row_offset w E k) (stride w E) m bytes)
        (inverse-lt (get_or (row w E k m) c 0))
        (λ i l.
        cell i l
        ∙ get_or-scaled factor (part (row_offset w E k) (w + E) m) i (omega (arith, length-part_k))
        ∙ ap (product factor) (part-row w E k i m l));
    flag =
        let e : row_offset w E k + (w + E) ≡ row_offset w E k + (w + E) + 0 = omega arith in
        get_or-part (row_offset w E k) (stride w E) (w + E) m' (omega (arith, flags_fit w E))
        ∙ ap (λ x. get_or x (row_offset w E k + (w + E)) 0) second
        ∙ ap (λ a. get_or (splice (row_offset w E k + (w + E)) (c ∷ []) m₁) a 0) e
        ∙ get_or-within (row_offset w E k + (w + E)) 0 (c ∷ []) m₁ (omega arith) (omega (arith, flags_fit w E, size, room));
  }

-- ---- where a row leads

-- The row has no coefficient before the `d`th position of the window from `b` on, whose column is `first`.
module _ (w E first i : ℕ) (l : List ℕ) (b d : ℕ) (near : d < w) (e : (b + d) % w ≡ first)
    (front : (j : ℕ) → b ≤ j → j < b + d → (line w E l).cells j ≡ (Coded E).𝟘) (led : Leading w first i l) where
  column : (t : ℕ) → (b + (d + t)) % w ≡ (first + t) % w
  column t =
      let x : b + d + t ≡ b + (d + t) = omega arith in
      ap (λ k. k % w) (sym x) ∙ sym (mod-add-mod (b + d) w t) ∙ ap (λ k. (k + t) % w) e

  zero_cells : (j : ℕ) → b ≤ j → j < b + (d + i) → (line w E l).cells j ≡ (Coded E).𝟘
  zero_cells j g h = go (dec_lt j (b + d))
    where
      go : Dec (j < b + d) → (line w E l).cells j ≡ (Coded E).𝟘
      go (yes x) = front j g x
      go (no x) =
          let y : b + (d + (j - (b + d))) ≡ j = omega arith in
          byte-zero _ (ap (λ k. get_or l (k % w) 0) (sym y) ∙ ap (λ k. get_or l k 0) (column (j - (b + d))) ∙ led.before (j - (b + d)) (omega arith))

  module _ (f : Bytes l) (h : i < w) where
    nonzero : (line w E l).cells (b + (d + i)) ≢ (Coded E).𝟘
    nonzero =
        byte_nonzero (get_or l ((b + (d + i)) % w) 0) (f ((b + (d + i)) % w)) (λ z. led.here h (ap (λ k. get_or l k 0) (sym (column i)) ∙ z))

    -- Around the window there is none.
    inside : d + i < w
    inside = go (dec_lt (d + i) w)
      where
        go : Dec (d + i < w) → d + i < w
        go (yes x) = x
        go (no x) =
            let y : b + (d + i) ≡ b + (d + i - w) + w = omega arith in
            absurd (nonzero (ap (λ k. byte (get_or l k 0)) (ap (λ k. k % w) y ∙ add-mod_right (b + (d + i - w)) w)
            ∙ front (b + (d + i - w)) (omega arith) (omega arith)))

    leads : Leads (line w E l) b (b + (d + i))
    leads = record { below = zero_cells; here = nonzero }

-- ---- a reduced equation settled

module _ (w E first k : ℕ) (m : List ℕ) (g : Works w E k m) (bytes : Bytes m) where
  positive : 0 < E
  positive = omega (arith, g.some_symbol)

  row-bytes : Bytes (row w E k m)
  row-bytes = bytes-part (row_offset w E k) (stride w E) m bytes

  module _ (c i : ℕ) (m' : List ℕ) (room : k < w) (h : i < w) (e : c ≡ (first + i) % w) (led : Leading w first i (row w E k m))
      (done : Normalised w E k c m m') where
    works : Works w E (k + 1) m'
    works =
        let old = works_only {z = row_offset w E k + (w + E + 1)} (omega (arith, flags_fit w E)) done.only g in
        record {
          some_width = old.some_width;
          wide = old.wide;
          some_symbol = old.some_symbol;
          long = old.long;
          room = old.room;
          within = omega arith;
          columns = λ j l. go j l (ℕ_discrete j k) (old.columns j);
        }
      where
        go : (j : ℕ) → j < k + 1 → Dec (j ≡ k) → (j < k → get_or (row w E j m') (w + E) 0 < w) → get_or (row w E j m') (w + E) 0 < w
        go j l (yes x) old =
            let y : get_or (row w E j m') (w + E) 0 ≡ (first + i) % w = ap (λ z. get_or (row w E z m') (w + E) 0) x ∙ done.flag ∙ e in
            omega (arith, mod-lt (first + i) {m = w} (omega arith))
        go j l (no x) old = old (omega arith)

    module _ (b d : ℕ) (near : d < w) (q : (b + d) % w ≡ first) (front : (j : ℕ) → b ≤ j → j < b + d → (line w E (row w E k m)).cells j ≡ (Coded E).𝟘) where
      abbrev p : ℕ
      p = b + (d + i)

      low : b ≤ p
      low = omega arith

      high : p < b + w
      high = let x = inside w E first i (row w E k m) b d near q front led row-bytes h in omega arith

      at : c ≡ p % w
      at = e ∙ sym (column w E first i (row w E k m) b d near q front led i)

      line_led : Leads (line w E (row w E k m)) b p
      line_led = leads w E first i (row w E k m) b d near q front led row-bytes h

      new : line w E (row w E k m') ≡ scale_line ((Coded E).inv ((line w E (row w E k m)).cells p)) (line w E (row w E k m))
      new =
          done.scaled
          ∙ ap (λ x. scale_line x (line w E (row w E k m))) (byte-inverse E (get_or (row w E k m) c 0) (row-bytes c))
          ∙ ap (λ x. scale_line ((Coded E).inv (byte (get_or (row w E k m) x 0))) (line w E (row w E k m))) at

      kept : Outcome w E b k m m' Kept
      kept = (
        (λ z. line_led.here (sym (lead_read (laws E positive) (line w E (row w E k m)) w b p line_led low high) ∙ z)),
        ap (λ x. read x w b) new ∙ normal_line (laws E positive) w b p low high (line w E (row w E k m)) line_led,
        record {
          position = p;
          from = low;
          before = high;
          leads = subst (λ x. Leads x b p) (sym new) (leads_scaled (laws E positive) (line w E (row w E k m)) b p line_led);
          column = done.flag ∙ at;
        },
      )

    pub settled_kept : Concluded w E first k Kept m m'
    settled_kept = record { only = done.only; works = works; outcome = kept }

  -- No coefficient: the code reads the symbol from `at` on.
  module _ (at : ℕ) (here : at ≡ row_offset w E k + w) (blank : k < w → Leading w first w (row w E k m)) where
    no_lead : (b d : ℕ) → d < w → (b + d) % w ≡ first → ((j : ℕ) → b ≤ j → j < b + d → (line w E (row w E k m)).cells j ≡ (Coded E).𝟘) → k < w
        → lead (Coded E) w (spelled w E b m k) ≡ (Coded E).𝟘
    no_lead b d near q front h =
        lead_none (laws E positive) (line w E (row w E k m)) w b
        (λ j g l. zero_cells w E first w (row w E k m) b d near q front (blank h) j g (omega arith))

    symbol_cell : (i : ℕ) → w ≤ i → i < w + E → get_or (row w E k m) i 0 ≡ get_or m (at + (i - w)) 0
    symbol_cell i l u =
        let e : row_offset w E k + i ≡ at + (i - w) = omega arith in
        get_or-part (row_offset w E k) (stride w E) i m (omega (arith, flags_fit w E)) ∙ ap (λ x. get_or m x 0) e

    pub settled_implied : ZeroFrom at (at + E) m → Concluded w E first k Implied m m
    settled_implied z = record {
      only = only_refl;
      works = g;
      outcome = λ b d near q front. (
        no_lead b d near q front,
        symbol_read (laws E positive) (line w E (row w E k m)) w b
            ∙ symbol_null E w (row w E k m) (λ i l u. symbol_cell i l u ∙ z (at + (i - w)) (omega arith) (omega arith)),
      );
    }

    pub settled_contradiction : (ZeroFrom at (at + E) m → ⊥) → Concluded w E first k Contradiction m m
    settled_contradiction z = record {
      only = only_refl;
      works = g;
      outcome = λ b d near q front. (
        no_lead b d near q front,
        λ x. z (λ i l u.
            let e : at + ((w + (i - at)) - w) ≡ i = omega arith in
            else_zero (get_or m i 0) (λ y.
            symbol_nonnull E w (w + (i - at)) (row w E k m) row-bytes (omega arith) (omega arith)
            (λ n. y (ap (λ a. get_or m a 0) (sym e) ∙ sym (symbol_cell (w + (i - at)) (omega arith) (omega arith)) ∙ n))
            (sym (symbol_read (laws E positive) (line w E (row w E k m)) w b) ∙ x))),
      );
    }

-- ---- the packet

-- The packet's rows depend on the rows before the row `kept` alone.
pub gathered_same : (w E b kept : ℕ) (S : State (Coded E) w) (m m' : List ℕ) (es : List (Row (Coded E) w)) → 0 < E
    → ((j : ℕ) → j < kept → row w E j m' ≡ row w E j m) → Gathered w E b S m kept es → Gathered w E b S m' kept es
gathered_same w E b kept S m m' es pos same f =
    let L = laws E pos in
    let rows : (j : ℕ) → j < kept → spelled w E b m j ≡ spelled w E b m' j = (λ j l. ap (equation w E b) (sym (same j l))) in
    record {
      chain = chain_same L (spelled w E b m) (spelled w E b m') kept S rows f.chain;
      marked = λ j l. subst (PivotMarked w E b) (sym (same j l)) (f.marked j l);
      inserted = f.inserted ∙ ap Some (place_rows_same L (spelled w E b m) (spelled w E b m') kept S rows);
    }

-- So a change in the row `kept` leaves them.
pub gathered_only : (w E b kept z : ℕ) (S : State (Coded E) w) (m m' : List ℕ) (es : List (Row (Coded E) w)) → 0 < E
    → Only (row_offset w E kept) z m m' → z ≤ row_offset w E kept + stride w E → Gathered w E b S m kept es → Gathered w E b S m' kept es
gathered_only w E b kept z S m m' es pos f h =
    gathered_same w E b kept S m m' es pos (λ j l. only_row w E kept j z m m' f h (omega arith))

-- Before the first equation.
pub gathered_none : (w E b : ℕ) (S : State (Coded E) w) (m : List ℕ) → 0 < E → Gathered w E b S m 0 []
unfolding insert_all place_rows
gathered_none w E b S m pos = record {
  chain = chain_none (laws E pos) S (spelled w E b m);
  marked = λ j l. absurd (omega arith);
  inserted = refl;
}

module _ (w E oldest stay kept first count n : ℕ) (verdict : Verdict) (m work work₁ work₂ work' : List ℕ) (fits : Fits w E m) (bytes : Bytes m)
    (g : Works w E kept work) (small : Bytes work) (near : Staying w oldest first count stay n)
    (f₁ : StateReduced w E kept first n m work work₁) (f₂ : PacketReduced w E kept kept work₁ work₂)
    (f₃ : Concluded w E first kept verdict work₂ work') where
  L : Laws (Coded E)
  L = laws E (omega (arith, fits.some_symbol))

  only₁ : Only (row_offset w E kept) (row_offset w E kept + (w + E)) work work₁
  only₁ = state_only w E kept first n m work work₁ g f₁

  only₂ : Only (row_offset w E kept) (row_offset w E kept + (w + E)) work work₂
  only₂ = only_trans only₁ f₂.only

  only₃ : Only (row_offset w E kept) (row_offset w E kept + (w + E + 1)) work work'
  only₃ = only_trans (only_wider (row_offset w E kept + (w + E)) (row_offset w E kept + (w + E + 1)) (omega arith) only₂) f₃.only

  module _ (b rise d : ℕ) (S : State (Coded E) w) (es : List (Row (Coded E) w)) (here : (b + rise) % w ≡ oldest) (stays : stay ≡ w - rise)
      (from : (b + rise + d) % w ≡ first) (in_window : d < w) (room : d + count ≤ w) (held : Window w E m b S) (rref : Rref S)
      (spans : Spans w first count (row w E kept work))
      (f : Gathered w E (b + rise) (advance_by rise S) work kept es) where
    abbrev S₀ : State (Coded E) w
    S₀ = advance_by rise S

    abbrev q : ℕ
    q = b + rise

    abbrev e : Row (Coded E) w
    e = spelled w E q work kept

    -- What the rows before give, in all four memories.
    f' : Gathered w E q S₀ work' kept es
    f' =
        gathered_only w E q kept (row_offset w E kept + (w + E + 1)) S₀ work work' es (omega (arith, fits.some_symbol)) only₃ (omega (arith, flags_fit w E)) f

    abbrev T : State (Coded E) w
    T = place_rows (spelled w E q work') kept S₀

    row_before : (j : ℕ) → j < kept → row w E j work₁ ≡ row w E j work
    row_before j l = only_row w E kept j (row_offset w E kept + (w + E)) work work₁ only₁ (omega (arith, flags_fit w E)) (omega arith)

    reduced : spelled w E q work₂ kept ≡ reduce T e
    reduced =
        f₂.sum q (λ j l. subst (PivotMarked w E q) (sym (row_before j l)) (f.marked j l))
        ∙ eliminate_same L w (spelled w E q work₁) (spelled w E q work) kept (spelled w E q work₁ kept) (λ j l. ap (equation w E q) (row_before j l))
        ∙ ap (eliminate (Coded E) w (spelled w E q work) kept)
        (state_reduced w E kept first n oldest count stay m work work₁ fits bytes g small f₁ near b rise d S here stays from room held rref spans)
        ∙ chain_reduce L S₀ (spelled w E q work) kept e f.chain
        ∙ ap (λ X. reduce X e)
        (place_rows_same L (spelled w E q work) (spelled w E q work') kept S₀
        (λ j l.
        ap (equation w E q) (sym (only_row w E kept j (row_offset w E kept + (w + E + 1)) work work' only₃ (omega (arith, flags_fit w E)) (omega arith)))))

    -- No coefficient before the equation's first.
    front : (j : ℕ) → q ≤ j → j < q + d → (line w E (row w E kept work₂)).cells j ≡ (Coded E).𝟘
    front =
        front_read L (line w E (row w E kept work₂)) w q d (omega arith)
        (subst (Front L w d) (sym reduced)
        (reduce_front L T d e
        (read_front L (line w E (row w E kept work)) w q d
        (λ j low high.
        let x : q + (j - q) ≡ j = omega arith in
        byte-zero _
        (ap (λ k. get_or (row w E kept work) (k % w) 0) (sym x)
        ∙ no_coefficient w E kept first n oldest count stay m work work₁ fits bytes g small f₁ near b rise d S here stays from room held rref spans
        (j - q) (omega arith) (λ t u. omega arith))))))

    -- Without a coefficient, or with as many rows as there are positions.
    none_left : (kept < w → lead (Coded E) w (spelled w E q work₂ kept) ≡ (Coded E).𝟘) → lead (Coded E) w (reduce T e) ≡ (Coded E).𝟘
    none_left z = go (dec_lt kept w)
      where
        go : Dec (kept < w) → lead (Coded E) w (reduce T e) ≡ (Coded E).𝟘
        go (yes l) = ap (lead (Coded E) w) (sym reduced) ∙ z l
        go (no l) = full_lead L S₀ (spelled w E q work') kept f'.chain (omega arith) e

    agrees : (v : Verdict) → Outcome w E q kept work₂ work' v → Agrees w E q S₀ work' kept (es ++ (e ∷ [])) v
    unfolding normal
    agrees Kept (z, s, mark) =
        let more =
        packet_places L S₀ (spelled w E q work') kept es f'.chain f'.inserted e (λ y. z (ap (lead (Coded E) w) reduced ∙ y)) (becomes s) in
        record {
          chain = subst (Chain S₀ (spelled w E q work')) (sym (add-one kept)) more.0;
          marked = λ j l. go j l (ℕ_discrete j kept);
          inserted = more.1 ∙ ap (λ j. Some (place_rows (spelled w E q work') j S₀)) (sym (add-one kept));
        }
      where
        becomes : spelled w E q work' kept ≡ scale (Coded E) w ((Coded E).inv (lead (Coded E) w (spelled w E q work₂ kept))) (spelled w E q work₂ kept)
            → spelled w E q work' kept ≡ normal L T e
        becomes s = s ∙ ap (λ r. scale (Coded E) w ((Coded E).inv (lead (Coded E) w r)) r) reduced

        go : (j : ℕ) → j < kept + 1 → Dec (j ≡ kept) → PivotMarked w E q (row w E j work')
        go j l (yes x) = subst (λ i. PivotMarked w E q (row w E i work')) (sym x) mark
        go j l (no x) = f'.marked j (omega arith)
    agrees Implied (z, y) = record {
      chain = f'.chain;
      marked = f'.marked;
      inserted =
          packet_implied L S₀ (spelled w E q work') kept es f'.chain f'.inserted e (none_left z) (ap (symbol (Coded E) w) (sym reduced) ∙ y);
    }
    agrees Contradiction (z, y) =
        packet_contradicts L S₀ (spelled w E q work') kept es f'.chain f'.inserted e (none_left z)
        (λ x. y (ap (symbol (Coded E) w) reduced ∙ x))

  pub admitted : Admitted w E oldest stay kept first count verdict m work work'
  admitted = record {
    only = only₃;
    works = f₃.works;
    outcome = λ b rise d S es here stays from in_window room held rref spans f.
        agrees b rise d S es here stays from in_window room held rref spans f verdict
        (f₃.outcome (b + rise) d in_window from (front b rise d S es here stays from in_window room held rref spans f));
  }

-- With no rows before, a row that the state's rows make zero is implied at once.
module _ (w E oldest stay kept first count n : ℕ) (any : Bool) (m work work' : List ℕ) (fits : Fits w E m) (bytes : Bytes m) (g : Works w E kept work)
    (small : Bytes work) (small' : Bytes work') (near : Staying w oldest first count stay n) (f : StateReduced w E kept first n m work work')
    (zero : ZeroIf w E kept any work') (none : kept ≡ 0) (nothing : any ≡ false) where
  zero_row : ZeroFrom (row_offset w E kept) (row_offset w E kept + (w + E)) work'
  zero_row i l u =
      let e : row_offset w E kept + (i - row_offset w E kept) ≡ i = omega arith in
      ap (λ a. get_or work' a 0) (sym e) ∙ zero nothing (i - row_offset w E kept) (omega arith)

  pub admitted_zero : Admitted w E oldest stay kept first count Implied m work work'
  admitted_zero =
      admitted w E oldest stay kept first count n Implied m work work' work' work' fits bytes g small near f
      (subst (λ j. PacketReduced w E kept j work' work') (sym none) (packet-none w E kept work'))
      (settled_implied w E first kept work'
      (works_only (omega (arith, flags_fit w E)) (state_only w E kept first n m work work' g f) g) small' (row_offset w E kept + w) refl
      (λ h. leading_none w E first kept (row_offset w E kept) work' refl fits.some_width (λ i l u. zero_row i l (omega arith)))
      (λ i l u. zero_row i (omega arith) (omega arith)))
