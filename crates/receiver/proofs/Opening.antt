-- Opening: what it answers, and that the memory it leaves holds a fresh receiver.
use Rattle.std.specs.Prelude.{◌≡◌, ◌≤◌, ◌+◌, ◌<◌, ◌-◌, ◌%◌, Ok, Err}
use Rattle.words.specs.Words.{arith, ℕ, length, List, refl, ◌∙◌, sym, ap, Some, None, get_or, false, subst, drop, le-ltb, lt-ltb}
use Rattle.words.specs.Words.{ltb, length-replicate, ext_get_or, some-injective, dec_lt, mod-lt}
use lib.ListN.{get_or-replicate}
use Rattle.memory.specs.Part.{part, splice}
use Rattle.memory.specs.Number.{number}
use Rattle.memory.proofs.Parts.{length_part, length-splice, take-splice, past-splice, get_or-within, get_or-part, get_or-past, get_or-before, row_fits}
use Rattle.wire.specs.declared.Setting.{Setting}
use Rattle.wire.specs.declared.Refusal.TheVariants.{Values, Short}
use Rattle.wire.specs.Packets.{zeros}
use Rattle.wire.specs.Settings.{setting_of, Valid}
use Rattle.wire.specs.Stored.{setting_bytes}
use Rattle.wire.proofs.Settings.{setting-names, setting-written, setting_kept}
use Rattle.table.specs.Window.{header_size, stride, row_offset}
use Rattle.table.proofs.Offsets.{header-long, flags_fit}
use Rattle.placing.proofs.Moving.{window_free}
use Rattle.starts.specs.Starts.{nowhere}
use Rattle.marks.specs.Marks.{marked}
use Rattle.marks.proofs.Only.{mark_row, mark_past}
use Rattle.history.specs.History.{memory_size}
use Rattle.history.specs.Model.{opened, unheard}
use Rattle.origins.specs.Origins.{origin_at}
use Rattle.holding.specs.Header.{row_in, header_in}
use Rattle.receiver.specs.Promises.{Opened}
use Rattle.memory.specs.Contained.{Contained}
use Rattle.holding.specs.Layout.{header_of, HoldsWith, Marks, Hears}
use Rattle.receiver.specs.Layout.{receiver_layout}
use Rattle.holding.specs.Inner.{fresh_memory}
use Rattle.history.proofs.Cases.{IsRefusal}
use Rattle.holding.proofs.Headers.{found, memory_is}
use Rattle.holding.proofs.Flows.{with-flows}

module _ (n E w : ℕ) (flows m : List ℕ) where
  pub opening_values : setting_of n E w ≡ None → Opened receiver_layout n E w flows m m (Err Values)
  opening_values e = record {
    answer = rw e;
    refused = λ k q. refl;
    contained = λ s q. record { same = refl; past = refl };
    holds = λ s q r. absurd (subst IsRefusal r tt);
    starts = λ s q r. absurd (subst IsRefusal r tt);
    origins = λ s q r. absurd (subst IsRefusal r tt);
  }

  pub opening_short : (s : Setting) → setting_of n E w ≡ Some s → length m < memory_size s → Opened receiver_layout n E w flows m m (Err Short)
  opening_short s e l = record {
    answer = rw (e, lt-ltb (length m) (memory_size s) l);
    refused = λ k q. refl;
    contained = λ t q. record { same = refl; past = refl };
    holds = λ t q r. absurd (subst IsRefusal r tt);
    starts = λ t q r. absurd (subst IsRefusal r tt);
    origins = λ t q r. absurd (subst IsRefusal r tt);
  }

-- The memory that opening leaves.
module _ (s : Setting) (v : Valid s) (flows m : List ℕ) (q : length flows ≡ 32) (room : memory_size s ≤ length m) where
  abbrev front : List ℕ
  front = splice 0 (setting_bytes 2 s) m

  abbrev rest : List ℕ
  rest = zeros (memory_size s - 8)

  abbrev fresh : List ℕ
  fresh = fresh_memory s m

  abbrev left : List ℕ
  left = splice 32 flows fresh

  length_front : length front ≡ length m
  unfolding setting_bytes
  length_front = length-splice 0 (setting_bytes 2 s) m (omega arith)

  length-fresh : length fresh ≡ length m
  unfolding fresh_memory
  length-fresh = length-splice 8 rest front (simp length-replicate (omega (arith, length_front))) ∙ length_front

  length_left : length left ≡ length m
  length_left = length-splice 32 flows fresh (omega (arith, q, length-fresh)) ∙ length-fresh

  past_left : drop (memory_size s) left ≡ drop (memory_size s) m
  unfolding fresh_memory setting_bytes
  past_left =
      past-splice (memory_size s) 32 flows fresh (omega (arith, q)) (omega (arith, length-fresh))
      ∙ past-splice (memory_size s) 8 rest front (simp length-replicate (omega arith)) (omega (arith, length_front))
      ∙ past-splice (memory_size s) 0 (setting_bytes 2 s) m (omega arith) (omega arith)

  -- No byte from the setting on, but those of the flows, is anything but zero.
  fresh_at : (i : ℕ) → 8 ≤ i → i < memory_size s → get_or fresh i 0 ≡ 0
  unfolding fresh_memory
  fresh_at i a b =
      let e : 8 + (i - 8) ≡ i = omega arith in
      ap (λ k. get_or fresh k 0) (sym e) ∙ get_or-within 8 (i - 8) rest front (simp length-replicate (omega arith)) (omega (arith, length_front))
      ∙ get_or-replicate (memory_size s - 8) (i - 8) 0 0 (omega arith)

  zero-part : (a n : ℕ) → 8 ≤ a → a + n ≤ memory_size s → part a n fresh ≡ zeros n
  zero-part a n h k =
      let l : length (part a n fresh) ≡ n = length_part a n fresh (omega (arith, length-fresh)) in
      ext_get_or 0 (part a n fresh) (zeros n) (l ∙ sym (length-replicate n 0))
      (λ i j.
      let q : i < n = omega (arith, l) in
      get_or-part a n i fresh q ∙ fresh_at (a + i) (omega arith) (omega arith) ∙ sym (get_or-replicate n i 0 0 q))

  header_is : header_in fresh ≡ Some (header_of s (opened s))
  unfolding fresh_memory
  header_is =
      let is = setting_kept 2 fresh front (take-splice 8 8 rest front (omega arith) (omega (arith, length_front))) ∙ setting-written 2 s m (omega arith) v in
      let row : row_in fresh ≡ 0 = ap number (zero-part 8 2 (omega arith) (omega arith)) in
      let esi : number (part 12 4 fresh) ≡ 0 = ap number (zero-part 12 4 (omega arith) (omega arith)) in
      found fresh s is (omega (arith, length-fresh)) (omega (arith, row)) ∙ rw (row, esi)

  -- A flag lies in its row, and the row in what the setting needs.
  zero_flag : (r k : ℕ) → r < s.width → k < stride s.width s.size → get_or fresh (row_offset s.width s.size r + k) 0 ≡ 0
  unfolding header_size stride
  zero_flag r k h l = fresh_at (row_offset s.width s.size r + k) (omega arith) (omega (arith, row_fits s.width (stride s.width s.size) r h))

  held : HoldsWith left s flows (opened s)
  held = with-flows fresh s flows q (opened s) record {
    header = header_is;
    rows = λ b.
        window_free s.width s.size b fresh (omega (arith, v.width_least))
        (λ r l.
        get_or-part (row_offset s.width s.size r) (stride s.width s.size) (s.width + s.size) fresh
        (omega (arith, flags_fit s.width s.size))
        ∙ zero_flag r (s.width + s.size) l (omega (arith, flags_fit s.width s.size)));
  }

  -- What stands past the flows is as it was before they were stored.
  past-flows : (k : ℕ) → header_size ≤ k → get_or left k 0 ≡ get_or fresh k 0
  past-flows k h = get_or-past k 32 flows fresh (omega (arith, q, header-long)) (omega (arith, length-fresh))

  none-marked : Marks left s (opened s) nowhere
  none-marked b i l = go (dec_lt i s.width)
    where
      go : Dec (i < s.width) → marked s.width s.size b left i ≡ false
      go (yes h) =
          let r = (b + i) % s.width in
          ap (λ k. ltb 0 (get_or left k 0)) (sym (mark_row s.width s.size b i r h refl))
          ∙ ap (ltb 0) (past-flows (row_offset s.width s.size r + (s.width + s.size + 1)) (omega arith)
          ∙ zero_flag r (s.width + s.size + 1) (mod-lt (b + i) (omega (arith, v.width_least))) (omega (arith, flags_fit s.width s.size)))
      go (no h) =
          ap (λ k. ltb 0 (get_or left k 0)) (sym (mark_past s.width s.size b i (omega arith)))
          ∙ ap (ltb 0) (get_or-before 10 32 flows fresh (omega arith) (omega (arith, length-fresh)) ∙ fresh_at 10 (omega arith) (omega arith))

  none_heard : Hears left s (opened s) unheard
  none_heard b = record {
    window = λ i l.
        let w = s.width in
        let r : (b + i) % w < w = mod-lt (b + i) (omega (arith, v.width_least)) in
        let k = origin_at w s.size ((b + i) % w) in
        ap (ltb 0) (past-flows k (omega arith) ∙ fresh_at k (omega (arith, header-long)) (omega (arith, memory_is s, r)));
    later = λ i l. refl;
  }

pub opening_done : (n E w : ℕ) (s : Setting) → setting_of n E w ≡ Some s → (flows m m' : List ℕ) → length flows ≡ 32 → memory_size s ≤ length m
    → m' ≡ splice 32 flows (fresh_memory s m) → Opened receiver_layout n E w flows m m' (Ok 0)
opening_done n E w s e flows m m' l room is =
    subst (λ x. Opened receiver_layout n E w flows m x (Ok 0)) (sym is) record {
      answer = rw (e, le-ltb (length m) (memory_size s) room);
      refused = λ i q. absurd (subst IsRefusal (sym q) tt);
      contained = λ t q.
          subst (λ x. Contained (memory_size x) m (left s v flows m l room)) (same t q)
          record { same = length_left s v flows m l room; past = past_left s v flows m l room };
      holds = λ t q r. subst (λ x. HoldsWith (left s v flows m l room) x flows (opened x)) (same t q) (held s v flows m l room);
      starts = λ t q r. subst (λ x. Marks (left s v flows m l room) x (opened x) nowhere) (same t q) (none-marked s v flows m l room);
      origins = λ t q r. subst (λ x. Hears (left s v flows m l room) x (opened x) unheard) (same t q) (none_heard s v flows m l room);
    }
  where
    v : Valid s
    v = (setting-names n E w s e).valid

    same : (t : Setting) → setting_of n E w ≡ Some t → s ≡ t
    same t q = some-injective s t (sym e ∙ q)
