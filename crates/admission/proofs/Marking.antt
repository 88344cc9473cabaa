-- A memory in which nothing but marks has changed holds the same state; and the marks after a packet.
-- Laws:
--   the same state: SameState, state_holds
--   only marks changed: starts_contained, starts_holds
--   marks not changed: same_marks
--   a packet's rows have joined: update_asks, count_asks, count_again, followed
use Rattle.std.specs.Prelude.{◌≡◌, ◌≤◌, ◌+◌, ◌<◌, ◌-◌, ◌%◌, ◌≢◌}
use Rattle.words.specs.Words.{arith, ℕ, length, List, refl, ◌∙◌, sym, ap, Some, None, get_or, false, Bool, subst, Option, ltb}
use Rattle.words.specs.Words.{ext_get_or, ap₂, dec_lt, mod-add-mod, mod-lt}
use Rattle.memory.specs.Part.{part}
use Rattle.memory.proofs.Parts.{length_part, get_or-part}
use Rattle.wire.specs.declared.Setting.{Setting}
use Rattle.wire.specs.Stored.{setting_in}
use Rattle.wire.proofs.Settings.{setting_kept}
use Rattle.decoder.specs.Bytes.{Coded}
use Rattle.table.proofs.Offsets.{header-long}
use Rattle.table.proofs.Rows.{fits_sized}
use Rattle.table.proofs.Holding.{window_same}
use Rattle.starts.specs.Starts.{Starts, owning, moved, pass, seen}
use Rattle.starts.specs.Settled.{Settled, Old}
use Rattle.marks.specs.MarkSteps.{Updated, Tallied}
use Rattle.marks.proofs.Only.{header_no_mark, past_no_mark, row_no_mark, mark_row, mark_past}
use Rattle.marks.proofs.Gaining.{old_ones}
use Rattle.holding.specs.declared.Header.{Header}
use Rattle.admission.specs.declared.packet.Location.{Location}
use Rattle.history.specs.History.{memory_size, farthest}
use Rattle.history.specs.Model.{Joined, State}
use Rattle.history.proofs.Sides.{limits}
use Rattle.holding.specs.Header.{header_with, header_in}
use Rattle.memory.specs.Contained.{Contained}
use Rattle.holding.specs.Layout.{header_from, header_of, Stands, Rows, Holds, MarksFrom}
use Rattle.admission.specs.Joining.{Based}
use Rattle.admission.specs.Steps.{SameMarks, SamePast, SameFlows, LocatedBy, Finished, Marked}
use Rattle.holding.proofs.Headers.{header_fits, setting-of}
use Rattle.admission.proofs.Joining.{based_fits}
use Rattle.admission.proofs.Gathering.{contained_more, contained_from}
use Rattle.decoder.specs.Model as model
use Rattle.decoder.specs.Receiver as decoder
use Rattle.table.specs.Window as window
use Rattle.marks.specs.Marks as marks

-- ---- what the state is read from has not changed

-- The header but for the bytes 10 and 11, and each row up to its first flag.
pub record SameState (w E : ℕ) (m m' : List ℕ) : Type 0 where
  pub size : length m' ≡ length m
  pub header : (k : ℕ) → k < 16 → k ≢ 10 → k ≢ 11 → get_or m' k 0 ≡ get_or m k 0
  pub rows : (r k : ℕ) → r < w → k < w + E + 1 → get_or m' (window.row_offset w E r + k) 0 ≡ get_or m (window.row_offset w E r + k) 0

module _ (w E : ℕ) (m m' : List ℕ) (o : SameState w E m m') (long : 16 ≤ length m) where
  -- A part of the header without the bytes 10 and 11.
  part_kept : (a n : ℕ) → a + n ≤ 16 → ((i : ℕ) → i < n → (a + i ≡ 10 → ⊥) × (a + i ≡ 11 → ⊥)) → part a n m' ≡ part a n m
  part_kept a n h away =
      let l : length (part a n m') ≡ n = length_part a n m' (omega (arith, o.size)) in
      ext_get_or 0 (part a n m') (part a n m) (l ∙ sym (length_part a n m (omega arith)))
      (λ i k.
      let j : i < n = omega (arith, l) in
      get_or-part a n i m' j ∙ o.header (a + i) (omega arith) (away i j).0 (away i j).1 ∙ sym (get_or-part a n i m j))

  setting_same : setting_in 2 m' ≡ setting_in 2 m
  unfolding part
  setting_same = setting_kept 2 m' m (part_kept 0 8 (omega arith) (λ i l. ((λ e. omega arith), (λ e. omega arith))))

  head_same : (s : Option Setting) → header_with m' s ≡ header_with m s
  head_same None = refl
  head_same (Some s) =
      let row = part_kept 8 2 (omega arith) (λ i l. ((λ e. omega arith), (λ e. omega arith))) in
      let esi = part_kept 12 4 (omega arith) (λ i l. ((λ e. omega arith), (λ e. omega arith))) in
      rw (o.size, row, esi)

  header_same : header_in m' ≡ header_in m
  unfolding header_in
  header_same = ap (header_with m') setting_same ∙ head_same (setting_in 2 m)

rows_same : (s : Setting) (t : State s) (m m' : List ℕ) → 0 < s.width → Rows m s t → SameState s.width s.size m m' → Rows m' s t
rows_same s None m m' pos k o = λ b. window_same s.width s.size m m' pos (λ r l i n. o.rows r i l n) b _ (k b)
rows_same s (Some t) m m' pos k o = record {
  reduced = k.reduced;
  rows = window_same s.width s.size m m' pos (λ r l i n. o.rows r i l n) t.base t.window k.rows;
}

pub state_holds : (s : Setting) (t : State s) (m m' : List ℕ) → Holds m s t → SameState s.width s.size m m' → Holds m' s t
state_holds s t m m' k o =
    let f = subst (λ (x : Setting). window.Fits x.width x.size m) (setting-of s t) (header_fits m (header_of s t) k.header) in
    record {
      header = header_same s.width s.size m m' o (omega (arith, header-long, f.room)) ∙ k.header;
      rows = rows_same s t m m' f.some_width k.rows o;
    }

-- ---- nothing but marks has changed

pub starts_contained : (s : Setting) (m m' : List ℕ) → marks.OnlyStarts s.width s.size m m' → Contained (memory_size s) m m'
unfolding window.header_size window.stride
starts_contained s m m' o =
    contained_from (memory_size s) m m' o.size
    (λ k h. o.others k (past_no_mark s.width s.size k (omega arith)) (λ e. omega (arith, e)))

starts_same : (w E : ℕ) (m m' : List ℕ) → marks.OnlyStarts w E m m' → SameState w E m m'
starts_same w E m m' o = record {
  size = o.size;
  header = λ k l n d. o.others k (header_no_mark w E k (omega (arith, header-long)) n) d;
  rows = λ r k l n. o.others (window.row_offset w E r + k) (row_no_mark w E r k n) (λ e. omega (arith, header-long, e));
}

pub starts_holds : (s : Setting) (t : State s) (m m' : List ℕ) → Holds m s t → marks.OnlyStarts s.width s.size m m' → Holds m' s t
starts_holds s t m m' k o = state_holds s t m m' k (starts_same s.width s.size m m' o)

-- ---- the marks have not changed

pub same_marks : (w E base : ℕ) (m m' : List ℕ) (M : Starts) → 0 < w → SameMarks w E m m' → marks.Marks w E base m M → marks.Marks w E base m' M
same_marks w E base m m' M pos f h i l = go (dec_lt i w) ∙ h i l
  where
    go : Dec (i < w) → marks.marked w E base m' i ≡ marks.marked w E base m i
    go (yes a) =
        let r = (base + i) % w in
        let e = mark_row w E base i r a refl in
        ap (λ k. ltb 0 (get_or m' k 0)) (sym e) ∙ ap (ltb 0) (f.rows r (mod-lt (base + i) pos)) ∙ ap (λ k. ltb 0 (get_or m k 0)) e
    go (no a) =
        let e = mark_past w E base i (omega arith) in
        ap (λ k. ltb 0 (get_or m' k 0)) (sym e) ∙ ap (ltb 0) (f.header 10 (omega arith) (omega arith)) ∙ ap (λ k. ltb 0 (get_or m k 0)) e

-- ---- a packet's rows have joined

-- What following it with the marks asks.
pub update_asks : (h : Header) (at : Location) (own : ℕ) (m m₁ : List ℕ) → Based m h → LocatedBy h at own
    → Contained (memory_size h.setting) m m₁
    → window.Fits at.shape.width at.shape.size m₁ × (h.oldest < at.shape.width) × (at.shape.oldest ≡ (h.oldest + at.rise) % at.shape.width)
    × (at.offset + own ≤ at.shape.width)
update_asks h at own m m₁ has placed k =
    let g = based_fits m h has in
    let f : window.Fits h.setting.width h.setting.size m₁ = fits_sized g k.same in
    let fits = subst (λ w. window.Fits w at.shape.size m₁) (sym placed.width)
    (subst (λ E. window.Fits h.setting.width E m₁) (sym placed.size) f) in
    (fits, subst (λ w. h.oldest < w) (sym placed.width) has.row_lt, placed.base, placed.room)

-- What it asks to count the packet's own positions before and after.
pub count_asks : (h : Header) (at : Location) (own : ℕ) (m : List ℕ) → Based m h → LocatedBy h at own → at.rise ≤ farthest
    → window.Fits h.setting.width h.setting.size m × (h.oldest < h.setting.width) × (at.rise + at.offset + own ≤ 100000)
count_asks h at own m has placed l =
    let g = based_fits m h has in
    (g, has.row_lt, omega (arith, l, placed.room, placed.width, g.wide, limits))

pub count_again : (h : Header) (at : Location) (own : ℕ) (m m₁ : List ℕ) → Based m h → LocatedBy h at own
    → Contained (memory_size h.setting) m m₁
    → window.Fits at.shape.width at.shape.size m₁ × (at.shape.oldest < at.shape.width) × (at.offset + own ≤ 100000)
count_again h at own m m₁ has placed k =
    let (f, l, b, r) = update_asks h at own m m₁ has placed k in
    (f, subst (λ x. x < at.shape.width) (sym b) (mod-lt (h.oldest + at.rise) f.some_width), omega (arith, r, f.wide))

-- Whether positions other than its own have become known is told by `others`.
module _ (h : Header) (at : Location) (kept own count had has : ℕ) (others : Bool) (work m m₁ m₂ : List ℕ) (head : Based m h)
    (placed : LocatedBy h at own) (f : Finished h at kept count work m m₁)
    (before : Tallied h.setting.width h.setting.size h.oldest (at.rise + at.offset) own had m)
    (after : Tallied at.shape.width at.shape.size at.shape.oldest at.offset own has m₁)
    (tells : others ≡ false → count ≡ has - had)
    (u : Updated at.shape.width at.shape.size h.oldest at.rise at.offset own others m₁ m₂) where
  -- All by the header's setting.
  u' : Updated h.setting.width h.setting.size h.oldest at.rise at.offset own others m₁ m₂
  u' =
      subst (λ x. Updated h.setting.width x h.oldest at.rise at.offset own others m₁ m₂) placed.size
      (subst (λ x. Updated x at.shape.size h.oldest at.rise at.offset own others m₁ m₂) placed.width u)

  after' : Tallied h.setting.width h.setting.size at.shape.oldest at.offset own has m₁
  after' =
      subst (λ x. Tallied h.setting.width x at.shape.oldest at.offset own has m₁) placed.size
      (subst (λ x. Tallied x at.shape.size at.shape.oldest at.offset own has m₁) placed.width after)

  module _ (s : Setting) (t : Joined s) (es : List (model.Row (Coded s.size) s.width)) (is : h ≡ header_from s t) (k : Stands m s t)
      (row : at.shape.oldest ≡ (t.base + at.rise) % s.width) (T : model.State (Coded s.size) s.width)
      (inserted : decoder.insert_all es (decoder.advance_by at.rise t.window) ≡ Some T)
      (held : Holds m₁ s (Some (record { base = t.base + at.rise; window = T })))
      (counted : count ≡ decoder.newly t (record { base = t.base + at.rise; window = T })) where
    fits : window.Fits s.width s.size m
    fits = subst (λ (x : Header). window.Fits x.setting.width x.setting.size m) is (based_fits m h head)

    olds : others ≡ false → Old s.width at.rise at.offset own (seen s.size s.width t.window) (seen s.size s.width T)
    olds no-others =
        let x = subst (λ (y : Header). Tallied y.setting.width y.setting.size y.oldest (at.rise + at.offset) own had m) is before in
        let y = subst (λ (z : Header). Tallied z.setting.width z.setting.size at.shape.oldest at.offset own has m₁) is after' in
        let a = x.told t.base t.window refl k.rows in
        let b = y.told (t.base + at.rise) T (sym row) held.rows.rows in
        let w : h.setting.width ≡ s.width = ap (λ (z : Header). z.setting.width) is in
        old_ones s.width s.size at.rise t.window T es (omega (arith, fits.some_symbol)) k.reduced inserted t.base at.offset own
        (omega (arith, placed.room, placed.width, w)) (sym counted ∙ tells no-others ∙ ap₂ (λ (i j : ℕ). i - j) b a)

    marks_after : (M : Starts) → MarksFrom m s t M → MarksFrom m₂ s (record { base = t.base + at.rise; window = T })
        (pass s.size (seen s.size s.width T) s.width (owning at.offset own (moved s.width at.rise M)))
    marks_after M km =
        let N = pass s.size (seen s.size s.width T) s.width (owning at.offset own (moved s.width at.rise M)) in
        let same = subst (λ (x : Header). SameMarks x.setting.width x.setting.size m m₁) is f.marks in
        let v = subst (λ (x : Header). Updated x.setting.width x.setting.size x.oldest at.rise at.offset own others m₁ m₂) is u' in
        let around = mod-add-mod t.base s.width at.rise in
        let note : marks.noted_in m ≡ marks.noted_in m₁ = sym (same.header 11 (omega arith) (omega arith)) in
        let (g, settled) =
        v.marks (t.base + at.rise) (seen s.size s.width t.window) T M (sym around) held.rows.rows
        (same_marks s.width s.size (t.base % s.width) m m₁ M fits.some_width same km.bytes)
        (subst (λ x. Settled s.size s.width (seen s.size s.width t.window) x M) note km.settled) olds in
        record { bytes = subst (λ b. marks.Marks s.width s.size b m₂ N) around g; settled = settled }

  marked : Marked h at kept own count work m m₂
  marked = record {
    contained = contained_more f.contained (starts_contained h.setting m₁ m₂ u'.only);
    most = f.most;
    outcome = λ s t es is k row g.
        let (T, i, held, n) = f.outcome s t es is k row g in
        let v = subst (λ (x : Header). marks.OnlyStarts x.setting.width x.setting.size m₁ m₂) is u'.only in (
          T,
          i,
          starts_holds s (Some (record { base = t.base + at.rise; window = T })) m₁ m₂ held v,
          n,
          marks_after s t es is k row T i held n,
        );
  }

  pub followed : Marked h at kept own count work m m₂ × SamePast h.setting.width h.setting.size m m₂ × SameFlows m m₂
  followed = (
    marked,
    (λ k l. u'.only.others k (past_no_mark h.setting.width h.setting.size k l) (λ e. omega (arith, header-long, e)) ∙ f.past k l),
    λ k l g.
        let None = header_no_mark h.setting.width h.setting.size k (omega (arith, header-long)) (λ e. omega (arith, e)) in
        u'.only.others k None (λ e. omega (arith, e))
        ∙ f.flows k l g,
  )
