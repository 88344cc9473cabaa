-- A packet's rows joined with the state's, and the header with the new base: the memory holds the state after the packet.
-- Laws:
--   the new header: rebased, rebased_length, rebased_front, rebased_past, rebased_row, rebased_esi, rebased_window
--   the state after the packet: finished
use Rattle.std.specs.Prelude.{◌≡◌, ◌≤◌, ◌+◌, ◌<◌, ◌-◌, ◌%◌, ◌^◌}
use Rattle.words.specs.Words.{arith, ℕ, length, List, refl, ◌∙◌, sym, ap, Some, get_or, subst, drop, take, get_or-take, get_or-drop}
use Rattle.words.specs.Words.{mod-lt}
use lib.Seq.{take-take}
use Rattle.memory.specs.Part.{part, splice}
use Rattle.memory.specs.Number.{number, bytes}
use Rattle.memory.proofs.Number.{number-bytes, length-bytes}
use Rattle.memory.proofs.Parts.{length-splice, take-splice, past-splice, part-before, part-splice, get_or-before, get_or-past}
use Rattle.wire.specs.declared.Setting.{Setting}
use Rattle.wire.specs.Inner.{esi_after}
use Rattle.wire.specs.Stored.{setting_in}
use Rattle.wire.proofs.Settings.{setting_kept}
use Rattle.decoder.specs.Bytes.{Coded}
use Rattle.decoder.proofs.Bytes.{laws}
use Rattle.table.specs.Window.{header_size}
use Rattle.table.proofs.Offsets.{header-long}
use Rattle.placing.specs.Place.{Committed}
use Rattle.table.proofs.Rows.{fits_kept}
use Rattle.table.proofs.Holding.{window-header}
use Rattle.marks.specs.Marks.{flag_at}
use Rattle.holding.specs.declared.Header.{Header}
use Rattle.admission.specs.declared.packet.Location.{Location}
use Rattle.history.specs.History.{memory_size}
use Rattle.history.specs.Model.{Joined}
use Rattle.holding.specs.Header.{row_in, header_in}
use Rattle.holding.specs.Layout.{header_from, Holds}
use Rattle.admission.specs.Joining.{Based}
use Rattle.admission.specs.Steps.{Finished}
use Rattle.holding.proofs.Headers.{found-joined}
use Rattle.admission.proofs.Joining.{based_fits}
use Rattle.admission.proofs.Gathering.{contained_past}
use Rattle.decoder.specs.Model as model
use Rattle.decoder.specs.Receiver as decoder
use Rattle.decoder.proofs.History as history
use Rattle.table.specs.Window as window

-- The equations that a system takes leave it reduced.
taken_reduced : (w E rise : ℕ) (S T : model.State (Coded E) w) (es : List (model.Row (Coded E) w)) → 0 < E → model.Rref S
    → decoder.insert_all es (decoder.advance_by rise S) ≡ Some T → model.Rref T
taken_reduced w E rise S T es pos r e =
    (subst (history.AddedAll (laws E pos) (decoder.advance_by rise S) es) e
    (history.insert_all_added (laws E pos) es (decoder.advance_by rise S) (history.advance_by_rref (laws E pos) rise S r))).0

-- Memories that are the same from a place on.
same_past : (a : ℕ) (m m' : List ℕ) → drop a m' ≡ drop a m → (k : ℕ) → a ≤ k → get_or m' k 0 ≡ get_or m k 0
same_past a m m' e k h =
    let i : a + (k - a) ≡ k = omega arith in
    ap (λ j. get_or m' j 0) (sym i) ∙ sym (get_or-drop a m' (k - a) 0) ∙ ap (λ x. get_or x (k - a) 0) e ∙ get_or-drop a m (k - a) 0 ∙ ap (λ j. get_or m j 0) i

-- A number for the row and the ESI of a base, stored.
abbrev pub rebased : (row esi : ℕ) → List ℕ → List ℕ
rebased row esi m = splice 12 (bytes 4 esi) (splice 8 (bytes 2 row) m)

module _ (row esi : ℕ) (m : List ℕ) (long : 16 ≤ length m) where
  abbrev m₁ : List ℕ
  m₁ = splice 8 (bytes 2 row) m

  length-first : length m₁ ≡ length m
  length-first = length-splice 8 (bytes 2 row) m (omega (arith, length-bytes 2 row))

  pub rebased_length : length (rebased row esi m) ≡ length m
  rebased_length = length-splice 12 (bytes 4 esi) m₁ (omega (arith, length-bytes 4 esi, length-first)) ∙ length-first

  pub rebased_front : take 8 (rebased row esi m) ≡ take 8 m
  rebased_front = take-splice 8 12 (bytes 4 esi) m₁ (omega arith) (omega (arith, length-first)) ∙ take-splice 8 8 (bytes 2 row) m (omega arith) (omega arith)

  pub rebased_past : (n : ℕ) → 16 ≤ n → drop n (rebased row esi m) ≡ drop n m
  rebased_past n h =
      past-splice n 12 (bytes 4 esi) m₁ (omega (arith, length-bytes 4 esi)) (omega (arith, length-first))
      ∙ past-splice n 8 (bytes 2 row) m (omega (arith, length-bytes 2 row)) (omega arith)

  -- The bytes of marks.
  rebased_spare : (k : ℕ) → 10 ≤ k → k < 12 → get_or (rebased row esi m) k 0 ≡ get_or m k 0
  rebased_spare k h l =
      get_or-before k 12 (bytes 4 esi) m₁ l (omega (arith, length-first)) ∙ get_or-past k 8 (bytes 2 row) m (omega (arith, length-bytes 2 row)) (omega arith)

  rebased_rows : (k : ℕ) → 16 ≤ k → get_or (rebased row esi m) k 0 ≡ get_or m k 0
  rebased_rows k h =
      get_or-past k 12 (bytes 4 esi) m₁ (omega (arith, length-bytes 4 esi)) (omega (arith, length-first))
      ∙ get_or-past k 8 (bytes 2 row) m (omega (arith, length-bytes 2 row)) (omega arith)

  pub rebased_row : row < 65536 → row_in (rebased row esi m) ≡ row
  rebased_row h =
      ap number (part-before 8 2 12 (bytes 4 esi) m₁ (omega arith) (omega (arith, length-first)) ∙ part-splice 8 (bytes 2 row) m (omega arith))
      ∙ number-bytes 2 row h

  pub rebased_esi : esi < 2 ^ 32 → number (part 12 4 (rebased row esi m)) ≡ esi
  rebased_esi h = ap number (part-splice 12 (bytes 4 esi) m₁ (omega (arith, length-first))) ∙ number-bytes 4 esi h

  pub rebased_window : (w E b : ℕ) (S : model.State (Coded E) w) → window.Fits w E m → window.Window w E m b S
      → window.Window w E (rebased row esi m) b S
  rebased_window w E b S f v =
      window-header w E 12 b (bytes 4 esi) m₁ S
      (record { some_width = f.some_width; wide = f.wide; some_symbol = f.some_symbol; long = f.long; room = omega (arith, f.room, length-first) })
      (omega (arith, header-long, length-bytes 4 esi)) (window-header w E 8 b (bytes 2 row) m S f (omega (arith, header-long, length-bytes 2 row)) v)

module _ (h : Header) (location : Location) (kept count esi : ℕ) (work m m₁ m' : List ℕ) (has : Based m h)
    (f : Committed h.setting.width h.setting.size h.oldest location.rise kept count work m m₁)
    (small : location.shape.oldest < 65535) (next : esi ≡ esi_after h.esi.0 location.rise)
    (stored : m' ≡ rebased (location.shape.oldest + 1) esi m₁) where
  room : window.Fits h.setting.width h.setting.size m₁
  room = fits_kept (based_fits m h has) f.unchanged

  long : 16 ≤ length m₁
  long = omega (arith, header-long, room.room)

  -- The memory holds the state with the base that was stored.
  held : (s : Setting) (t : Joined s) (T : model.State (Coded s.size) s.width) → h ≡ header_from s t → model.Rref T
      → location.shape.oldest ≡ (t.base + location.rise) % s.width → window.Window s.width s.size m₁ (t.base + location.rise) T
      → Holds m' s (Some (record { base = t.base + location.rise; window = T }))
  unfolding header_size window.stride
  held s t T is reduced row v =
      let b = location.shape.oldest in
      let n : ℕ = b + 1 in
      let same : h.setting ≡ s = ap (λ x. x.setting) is in
      let base : h.esi.0 ≡ t.base % 2 ^ 32 = ap (λ x. x.esi.0) is in
      let e : esi ≡ (t.base + location.rise) % 2 ^ 32 = omega (arith, next, base) in
      let l : 16 ≤ length m₁ = long in
      let whole : memory_size s ≤ length m = subst (λ x. memory_size x ≤ length m) same has.room in
      let fits : window.Fits s.width s.size m₁ = subst (λ x. window.Fits x.width x.size m₁) same room in
      let front : take 8 (rebased n esi m₁) ≡ take 8 m =
      rebased_front n esi m₁ l ∙ sym (take-take 8 header_size m₁ (omega (arith, header-long))) ∙ ap (take 8) f.unchanged.header ∙ take-take 8 header_size m
      (omega (arith, header-long)) in
      let set : setting_in 2 (rebased n esi m₁) ≡ Some s =
      setting_kept 2 (rebased n esi m₁) m front ∙ has.setting ∙ ap Some same in
      let at : row_in (rebased n esi m₁) ≡ (t.base + location.rise) % s.width + 1 = rebased_row n esi m₁ l (omega arith) ∙ ap (λ x. x + 1) row in
      let at_esi : number (part 12 4 (rebased n esi m₁)) ≡ (t.base + location.rise) % 2 ^ 32 = rebased_esi n esi m₁ l (omega (arith, e)) ∙ e in
      let head : header_in (rebased n esi m₁) ≡ Some (header_from s (record { base = t.base + location.rise; window = T })) =
      found-joined (rebased n esi m₁) s set _ _ (omega (arith, whole, f.unchanged.size, rebased_length n esi m₁ l))
      (mod-lt (t.base + location.rise) fits.some_width) at at_esi in
      subst (λ x. Holds x s (Some (record { base = t.base + location.rise; window = T }))) (sym stored)
      (record {
        header = head;
        rows = record { reduced = reduced; rows = rebased_window n esi m₁ l s.width s.size (t.base + location.rise) T fits v };
      })

  pub finished : Finished h location kept count work m m'
  unfolding header_size window.stride
  finished = record {
    contained =
        let rows = window.row_offset h.setting.width h.setting.size h.setting.width in
        contained_past rows (omega arith) (record {
          same = ap length stored ∙ rebased_length (location.shape.oldest + 1) esi m₁ long ∙ f.unchanged.size;
          past = ap (drop rows) stored ∙ rebased_past (location.shape.oldest + 1) esi m₁ long rows (omega arith) ∙ f.unchanged.past;
        });
    marks = record {
      header = λ k l g.
          ap (λ x. get_or x k 0) stored ∙ rebased_spare (location.shape.oldest + 1) esi m₁ long k l g
          ∙ sym (get_or-take header_size m₁ k 0 (omega (arith, header-long))) ∙ ap (λ x. get_or x k 0) f.unchanged.header ∙ get_or-take header_size m k 0
          (omega (arith, header-long));
      rows = λ r l.
          let w = h.setting.width in
          let E = h.setting.size in
          ap (λ x. get_or x (flag_at w E r) 0) stored ∙ rebased_rows (location.shape.oldest + 1) esi m₁ long (flag_at w E r) (omega arith)
          ∙ f.unchanged.flags r (w + E + 1) l (omega arith) (omega arith);
    };
    past = λ k l.
        let rows = window.row_offset h.setting.width h.setting.size h.setting.width in
        ap (λ x. get_or x k 0) stored ∙ rebased_rows (location.shape.oldest + 1) esi m₁ long k (omega arith) ∙ same_past rows m m₁ f.unchanged.past k l;
    flows = λ k l g.
        ap (λ x. get_or x k 0) stored ∙ rebased_rows (location.shape.oldest + 1) esi m₁ long k (omega arith)
        ∙ sym (get_or-take header_size m₁ k 0 (omega (arith, header-long))) ∙ ap (λ x. get_or x k 0) f.unchanged.header ∙ get_or-take header_size m k 0
        (omega (arith, header-long));
    most = f.most;
    outcome = λ s t es is k row g.
        let pos : 0 < s.size = subst (λ (x : Header). 0 < x.setting.size) is (omega (arith, has.valid.size_least)) in
        let c = subst (λ (x : Header). Committed x.setting.width x.setting.size x.oldest location.rise kept count work m m₁) is f in
        let (T, i, v, n) = c.outcome t.base t.window es refl k.rows k.reduced g in
        (T, i, held s t T is (taken_reduced s.width s.size location.rise t.window T es pos k.reduced i) row v, n);
  }
