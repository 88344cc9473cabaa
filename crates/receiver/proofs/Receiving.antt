-- A packet call, by how it ends: a check that fails, a packet that contradicts, or one that is accepted.
-- Laws:
--   a check fails: received_failed
--   all checks passed: location_width, location_size, Ready, ready, accept_asks, received_contradiction, received_done
use Rattle.std.specs.Prelude.{◌≡◌, ◌≤◌, ◌+◌, ◌<◌, ◌-◌, ◌%◌, ◌^◌, Ok, Err}
use Rattle.words.specs.Words.{arith, ℕ, length, List, refl, ◌∙◌, sym, ap, Some, None, subst, Option, none-ne-some}
use Rattle.words.specs.Words.{some-injective, mod-add-mod, mod-lt}
use Rattle.origins.proofs.Hearing.{hears_alike}
use Rattle.wire.specs.declared.Setting.{Setting}
use Rattle.wire.specs.declared.Refusal.{Refusal}
use Rattle.wire.specs.Numbers.{number_of}
use Rattle.wire.specs.Flows.{flows_in}
use Rattle.decoder.specs.Bytes.{Coded}
use Rattle.table.specs.Window.{header_size, stride, row_offset, Fits}
use Rattle.starts.specs.Starts.{Starts, owning, moved, pass, seen}
use Rattle.starts.proofs.Settling.{unseen_settled}
use Rattle.marks.proofs.Gaining.{unseen_empty}
use Rattle.holding.specs.declared.Header.{Header}
use Rattle.admission.specs.declared.packet.Location.{Location}
use Rattle.admission.specs.declared.packet.Passed.{Passed}
use Rattle.history.specs.History.{Located, source, repair, first, named, Call, esi_of, Reading, fails, located, farthest, memory_size, working_size, reading}
use Rattle.wire.specs.Answers.{value, refusal}
use Rattle.history.specs.Model.{Joined, State, found_by, Outcome, packet_of, added, responds, answering, state_after, naming, starts_after, marking, receiving, refused}
use Rattle.history.specs.Model.{Origins, bringing, hearing, origins_after}
use Rattle.holding.specs.Header.{header_in}
use Rattle.receiver.specs.Promises.{Follows, Received}
use Rattle.memory.specs.Contained.{Contained}
use Rattle.holding.specs.Layout.{header_from, Stands, Holds, HoldsWith, MarksFrom, Marks, Hears}
use Rattle.receiver.specs.Layout.{receiver_layout}
use Rattle.admission.specs.Joining.{header_for, Based}
use Rattle.admission.specs.Reading.{Failed, Passes}
use Rattle.admission.specs.Steps.{location_at, Comes, WorksOn, firsts, Lies, Gathers, LocatedBy, Accepted}
use Rattle.history.proofs.Cases.{IsRefusal, numeral}
use Rattle.table.proofs.Offsets.{header-long}
use Rattle.holding.proofs.Headers.{header_fits, setting_held}
use Rattle.holding.proofs.Flows.{same_flows}
use Rattle.admission.proofs.Joining.{based, based_fits, found-header, found_stands, found_hears}
use Rattle.admission.proofs.Reading.{reads_found}
use Rattle.admission.proofs.Gathering.{contained_none, contained_past}
use Rattle.wire.specs.declared.Refusal.TheVariants as refusals
use Rattle.decoder.specs.Model as model
use Rattle.decoder.specs.Receiver as decoder
use Rattle.decoder.specs.Packets as packets
use Rattle.table.specs.Packet as packet

-- The marks after a call that finds the receiver as j, by what was read of it and what it came to.
abbrev MarksBy : (s : Setting) (t : State s) (j : Joined s) (M : Starts) (m' : List ℕ) → Reading → Outcome s → Type 0
MarksBy s t j M m' x y = Marks m' s (state_after t y) (marking s j M x y)

-- And what is heard.
abbrev HearsBy : (s : Setting) (t : State s) (H : Origins) (m' : List ℕ) → Reading → Outcome s → Type 0
HearsBy s t H m' x y = Hears m' s (state_after t y) (origins_after x y H)

-- Before any base they are marks wherever it will be.
found_marks : (m : List ℕ) (s : Setting) (t : State s) (e : ℕ) (M : Starts) → Marks m s t M → MarksFrom m s (found_by s t e) M
found_marks m s None e M k = record {
  bytes = k (e % s.width);
  settled = unseen_settled s.size s.width _ _ M (λ i _. unseen_empty s.size s.width i);
}
found_marks m s (Some t) e M k = k

-- ---- A check fails

module _ (c : Call) (m v : List ℕ) where
  pub received_failed : (x : Refusal) → Failed c m (length v) x → Received receiver_layout c m m v v (Err x)
  unfolding answering
  received_failed x f = record {
    unopened = ((λ q. without (header_in m) refl (ap numeral q)), (λ q. ap (λ y. refusal (number_of y)) (f.unopened q)));
    untouched = λ _. refl;
    refused = λ n q. refl;
    contained = λ h' q. (contained_none, contained_none);
    follows = λ s flows t k.
        subst (λ y. Follows receiver_layout s flows (responds s (found_by s t (esi_of c)) y) m m (Err x)) (sym (told s flows t k)) (refl, refl);
    starts = λ s flows t M k g.
        let j = found_by s t (esi_of c) in
        subst (λ y. MarksBy s t j M m y (responds s j y)) (sym (told s flows t k)) g;
    origins = λ s flows t H k g. subst (λ y. HearsBy s t H m y (responds s (found_by s t (esi_of c)) y)) (sym (told s flows t k)) g;
  }
    where
      told : (s : Setting) (flows : List ℕ) (t : State s) → HoldsWith m s flows t
          → reading s flows (found_by s t (esi_of c)).base (length v) c ≡ fails (number_of x)
      told s flows t k = subst (λ y. reading s y (found_by s t (esi_of c)).base (length v) c ≡ fails (number_of x)) k.kept (f.told s t k.holds)

      without : (o : Option Header) → header_in m ≡ o → number_of x ≡ 3 → header_in m ≡ None
      without None e z = e
      without (Some h) e z = absurd (f.opened h e z)

-- ---- The model's answer

first_of : (E : ℕ) (q : Located) → (packet_of E q).first ≡ first q
unfolding packets.source packets.repair
first_of E (source p vs) = refl
first_of E (repair p n cs vs) = refl

named-of : (E : ℕ) (q : Located) → (packet_of E q).count ≡ named q
unfolding packets.source packets.repair
named-of E (source p vs) = refl
named-of E (repair p n cs vs) = refl

-- By a packet's rise and equations.
received_by : (s : Setting) (t : Joined s) (p : decoder.Packet (Coded s.size)) (rise : ℕ) → decoder.rise t p ≡ rise
    → (o : Option (model.State (Coded s.size) s.width))
    → decoder.insert_all (decoder.over (Coded s.size) s.width (t.base + rise) p) (decoder.advance_by rise t.window) ≡ o
    → decoder.receive t p ≡ decoder.and_then o (λ S. Some (record { base = t.base + rise; window = S }))
unfolding decoder.receive
received_by s t p rise e o f =
    ap
    (λ d.
    decoder.and_then (decoder.insert_all (decoder.over (Coded s.size) s.width (t.base + d) p) (decoder.advance_by d t.window))
    (λ S. Some (record { base = t.base + d; window = S })))
    e
    ∙ ap (λ x. decoder.and_then x (λ S. Some (record { base = t.base + rise; window = S }))) f

-- By the state's base, the place is where the packet lies in the window.
lies_at : (s : Setting) (t : Joined s) (d n : ℕ) → 0 < n → n ≤ s.width
    → Lies (location_at (header_from s t) d n) (location_at (header_from s t) d n).first n t.base (d - (d + n - s.width))
lies_at s t d n pos fits =
    let w : ℕ = s.width in
    let e : t.base + (d + n - w) + (d - (d + n - w)) ≡ t.base + d = omega arith in
    record {
      base = sym (mod-add-mod t.base w (d + n - w));
      stay = refl;
      column = ap (λ k. k % w) e ∙ sym (mod-add-mod t.base w d);
      some = pos;
      room = omega arith;
    }

-- What a place asks of the memories.
pub record Ready (at : Location) (m v : List ℕ) : Type 0 where
  pub fits : Fits at.shape.width at.shape.size m
  pub works : packet.Works at.shape.width at.shape.size 0 v
  pub base : at.shape.oldest < at.shape.width
  pub first : at.first < at.shape.width
  pub small : at.shape.oldest < 65535
  pub rise : at.rise ≤ farthest

-- ---- All checks have passed: the packet is q p, where p is its first position

module _ (c : Call) (m v : List ℕ) (h : Header) (q : ℕ → Located) (d : ℕ) (passed : Passed) (passes : Passes c m (length v) h q d passed) where
  -- The header for the packet, and its place.
  abbrev g : Header
  g = header_for h (esi_of c)

  abbrev at : Location
  at = passed.location

  abbrev n : ℕ
  n = passed.named

  pub location_width : at.shape.width ≡ h.setting.width
  location_width = ap (λ p. p.shape.width) passes.location

  pub location_size : at.shape.size ≡ h.setting.size
  location_size = ap (λ p. p.shape.size) passes.location

  -- What the place asks of the memories.
  pub ready : Ready at m v
  unfolding header_size stride
  ready =
      let k = based_fits m g (based m h (esi_of c) passes.has) in
      let b = mod-lt (g.oldest + (d + n - h.setting.width)) k.some_width in
      subst (λ x. Ready x m v) (sym passes.location)
      (record {
        fits = k;
        works = record {
          some_width = k.some_width;
          wide = k.wide;
          some_symbol = k.some_symbol;
          long = k.long;
          room = omega (arith, passes.lent);
          within = omega arith;
          columns = λ k l. absurd (omega arith);
        };
        base = b;
        first = mod-lt (g.oldest + d) k.some_width;
        small = omega (arith, b, k.wide);
        rise = omega (arith, passes.near);
      })

  placed_by : (own : ℕ) → own ≤ n → LocatedBy g at own
  placed_by own l =
      subst (λ x. LocatedBy g x own) (sym passes.location)
      (record { width = refl; size = refl; base = refl; stay = refl; room = omega (arith, passes.fits) })

  -- What accepting asks, once the equations are gathered.
  pub accept_asks : (v' : List ℕ) (r : Option ℕ) (kept own : ℕ) → r ≡ Some kept → WorksOn at.shape.width at.shape.size v' r → own ≤ n
      → Based m passed.header × packet.Works passed.header.setting.width passed.header.setting.size kept v' × (at.shape.oldest < 65535)
      × (at.rise ≤ farthest) × LocatedBy passed.header at own
  accept_asks v' r kept own z f l =
      let k = subst (WorksOn at.shape.width at.shape.size v') z f in
      let works = subst (λ (p : Location). packet.Works p.shape.width p.shape.size kept v') passes.location k in
      rw passes.header (based m h (esi_of c) passes.has, works, ready.small, ready.rise, placed_by own l)

  -- The receiver as the packet finds it has that header.
  header-found : (s : Setting) (t : State s) → Holds m s t → g ≡ header_from s (found_by s t (esi_of c))
  header-found s t k = found-header m h s t (esi_of c) passes.has k

  -- Its equations `rows` have been gathered at its place.
  module _ (count : ℕ) (from : (p : ℕ) → first (q p) ≡ p) (names : (p : ℕ) → named (q p) ≡ n)
      (rows : (w E : ℕ) → ℕ → ℕ → model.Row (Coded E) w)
      (spell : (b i : ℕ) → decoder.over (Coded h.setting.size) h.setting.width b (packet_of h.setting.size (q (b + i)))
      ≡ firsts (rows h.setting.width h.setting.size i) count)
      (v' : List ℕ) (r : Option ℕ) (f : Gathers at n (rows at.shape.width at.shape.size) count r m v v') where
    work_kept : Contained (working_size h.setting) v v'
    unfolding header_size stride
    work_kept =
        contained_past (row_offset h.setting.width h.setting.size (h.setting.width + 1)) (omega arith)
        (subst (λ (p : Location). Contained (row_offset p.shape.width p.shape.size (p.shape.width + 1)) v v') passes.location f.contained)

    module _ (s : Setting) (t : Joined s) (is-header : g ≡ header_from s t) (k : Stands m s t) where
      here : at ≡ location_at (header_from s t) d n
      here = passes.location ∙ ap (λ x. location_at x d n) is-header

      -- The model's packet, and what its equations come to.
      abbrev p : decoder.Packet (Coded s.size)
      p = packet_of s.size (q (t.base + d))

      abbrev ComesAt : Location → Type 0
      ComesAt at =
          Comes s.width s.size (t.base + at.rise) (decoder.advance_by at.rise t.window) v'
          (decoder.over (Coded s.size) s.width (t.base + at.rise) p) r

      comes : ComesAt at
      comes =
          let i : ℕ = d + n - s.width in
          let b : ℕ = t.base + i in
          let w : h.setting.width ≡ s.width = ap (λ (y : Header). y.setting.width) is-header in
          let x : b + (d - i) ≡ t.base + d = omega (arith, w, passes.fits) in
          let spelt = subst
          (λ (y : Header). (b i : ℕ) → decoder.over (Coded y.setting.size) y.setting.width b (packet_of y.setting.size (q (b + i)))
          ≡ firsts (rows y.setting.width y.setting.size i) count) is-header spell in
          let f' = subst (λ (y : Location). Gathers y n (rows y.shape.width y.shape.size) count r m v v') here f in
          subst ComesAt (sym here)
          (subst (λ es. Comes s.width s.size b (decoder.advance_by i t.window) v' es r)
          (sym (spelt b (d - i)) ∙ ap (λ (y : ℕ). decoder.over (Coded s.size) s.width b (packet_of s.size (q y))) x)
          (f'.outcome t.base (d - i) t.window (lies_at s t d n passes.names (omega (arith, w, passes.fits))) k.rows k.reduced))

      rises : decoder.rise t p ≡ at.rise
      unfolding decoder.rise
      rises =
          let x : at.rise ≡ d + n - s.width = ap (λ y. y.rise) here in
          omega (arith, x, first_of s.size (q (t.base + d)), named-of s.size (q (t.base + d)), from (t.base + d), names (t.base + d))

      -- What holds of the packet and of what the model makes of it holds of what was read and of the call.
      by_model : (flows : List ℕ) → flows_in m ≡ flows → (P : Reading → Outcome s → Type 0) (o : Option (model.State (Coded s.size) s.width))
          → decoder.insert_all (decoder.over (Coded s.size) s.width (t.base + at.rise) p) (decoder.advance_by at.rise t.window) ≡ o
          → P (located (q (t.base + d))) (added s t (decoder.and_then o (λ S. Some (record { base = t.base + at.rise; window = S }))))
          → P (reading s flows t.base (length v) c) (answering s flows t (length v) c)
      unfolding answering
      by_model flows kept P o i x =
          let told = subst (λ y. (b : ℕ) → b % 2 ^ 32 ≡ g.esi.0 → reading h.setting y b (length v) c ≡ located (q (b + d))) kept passes.told in
          subst (λ y. P y (responds s t y)) (sym (reads_found c flows (length v) g (λ b. located (q (b + d))) told s t is-header))
          (subst (λ y. P (located (q (t.base + d))) (added s t y)) (sym (received_by s t p at.rise rises o i)) x)

      -- The marks that the model makes of the packet.
      models : (M : Starts) (T : model.State (Coded s.size) s.width) (own : ℕ)
          → ((N : Starts) → naming s (t.base + at.rise) (q (t.base + d)) N ≡ owning at.offset own N)
          → pass s.size (seen s.size s.width T) s.width (owning at.offset own (moved s.width at.rise M))
          ≡ starts_after s t (record { base = t.base + at.rise; window = T }) (q (t.base + d)) M
      unfolding starts_after
      models M T own owns =
          let rose : t.base + at.rise - t.base ≡ at.rise = omega arith in
          ap (λ N. pass s.size (seen s.size s.width T) s.width N)
          (sym (owns (moved s.width at.rise M))
          ∙ ap (λ x. naming s (t.base + at.rise) (q (t.base + d)) (moved s.width x M)) (sym rose))

      row_is : at.shape.oldest ≡ (t.base + at.rise) % s.width
      row_is = subst (λ (y : Location). y.shape.oldest ≡ (t.base + y.rise) % s.width) (sym here) (mod-add-mod t.base s.width (d + n - s.width))

    -- The rows of the receiver as the packet finds it.
    stands_found : (s : Setting) (t : State s) → Holds m s t → Stands m s (found_by s t (esi_of c))
    stands_found s t k =
        found_stands m s t (esi_of c)
        (subst (λ (x : Setting). 0 < x.size) (setting_held m h s t passes.has k) (omega (arith, (header_fits m h passes.has).some_symbol))) k

    comes-found : (s : Setting) (t : State s) (k : Holds m s t) → ComesAt s (found_by s t (esi_of c)) (header-found s t k) (stands_found s t k) at
    comes-found s t k = comes s (found_by s t (esi_of c)) (header-found s t k) (stands_found s t k)

    pub received_contradiction : r ≡ None → Received receiver_layout c m m v v' (Err refusals.Contradiction)
    received_contradiction z = record {
      unopened = ((λ x. let y = ap numeral x in absurd (omega (arith, y))), (λ x. absurd (none-ne-some h (sym x ∙ passes.has))));
      untouched = λ x. absurd (none-ne-some h (sym x ∙ passes.has));
      refused = λ n x. refl;
      contained = λ h' x.
          subst (λ (y : Header). Contained (memory_size y.setting) m m × Contained (working_size y.setting) v v')
          (some-injective h h' (sym passes.has ∙ x)) (contained_none, work_kept);
      follows = λ s flows t k.
          by_found s flows t k (λ x y. Follows receiver_layout s flows y m m (Err refusals.Contradiction)) (refl, refl);
      starts = λ s flows t M k i. by_found s flows t k (λ x y. MarksBy s t (found_by s t (esi_of c)) M m x y) i;
      origins = λ s flows t H k i. by_found s flows t k (λ x y. HearsBy s t H m x y) i;
    }
      where
        by_found : (s : Setting) (flows : List ℕ) (t : State s) (k : HoldsWith m s flows t) (P : Reading → Outcome s → Type 0)
            → P (located (q ((found_by s t (esi_of c)).base + d))) (refused 11)
            → P (reading s flows (found_by s t (esi_of c)).base (length v) c) (receiving s flows t (length v) c)
        by_found s flows t k P x =
            let i = k.holds in
            by_model s (found_by s t (esi_of c)) (header-found s t i) (stands_found s t i) flows k.kept P None
            (subst (Comes _ _ _ _ v' _) z (comes-found s t i)) x

    -- It has `own` symbols of its own.
    pub received_done : (own : ℕ) → ((s : Setting) (b : ℕ) (N : Starts) → naming s (b + at.rise) (q (b + d)) N ≡ owning at.offset own N)
        → ((b : ℕ) (H : Origins) (x : ℕ) → bringing (b + at.rise + at.offset) own H x ≡ hearing (q (b + d)) H x)
        → (kept known : ℕ) (m' : List ℕ) → r ≡ Some kept → Accepted passed.header at kept own known v' m m'
        → Received receiver_layout c m m' v v' (Ok known)
    received_done own owns brings kept known m' z accepted =
        let done = subst (λ (y : Header). Accepted y at kept own known v' m m') passes.header accepted in
        let kept-flows : flows_in m' ≡ flows_in m =
        same_flows m m' (omega (arith, header-long, (header_fits m h passes.has).room)) done.marked.contained.same done.flows in
        record {
          unopened = ((λ x. absurd (subst IsRefusal (sym x) tt)), (λ x. absurd (none-ne-some h (sym x ∙ passes.has))));
          untouched = λ x. absurd (none-ne-some h (sym x ∙ passes.has));
          refused = λ n x. absurd (subst IsRefusal (sym x) tt);
          contained = λ h' x.
              subst (λ (y : Header). Contained (memory_size y.setting) m m' × Contained (working_size y.setting) v v')
              (some-injective h h' (sym passes.has ∙ x)) (done.marked.contained, work_kept);
          follows = λ s flows t record { holds = k; kept = f }.
              let j = found_by s t (esi_of c) in
              let e = header-found s t k in
              let l = stands_found s t k in
              let (T, i, held, counted, marks) = done.marked.outcome s j _ e l (row_is s j e l) (subst (Comes _ _ _ _ v' _) z (comes-found s t k)) in
              by_model s j e l flows f (λ x y. Follows receiver_layout s flows y m m' (Ok known)) (Some T) i
              (ap value counted, record { holds = held; kept = kept-flows ∙ f });
          starts = λ s flows t M record { holds = k; kept = f } b.
              let j = found_by s t (esi_of c) in
              let e = header-found s t k in
              let l = stands_found s t k in
              let (T, i, held, counted, marks) = done.marked.outcome s j _ e l (row_is s j e l) (subst (Comes _ _ _ _ v' _) z (comes-found s t k)) in
              by_model s j e l flows f (λ x y. MarksBy s t j M m' x y) (Some T) i
              (subst (λ N. MarksFrom m' s (record { base = j.base + at.rise; window = T }) N) (models s j e l M T own (owns s j.base))
              (marks M (found_marks m s t (esi_of c) M b)));
          origins = λ s flows t H record { holds = k; kept = f } b.
              let j = found_by s t (esi_of c) in
              let e = header-found s t k in
              let l = stands_found s t k in
              let (T, i, held, counted, marks) = done.marked.outcome s j _ e l (row_is s j e l) (subst (Comes _ _ _ _ v' _) z (comes-found s t k)) in
              let heard = (subst (λ (y : Header). Accepted y at kept own known v' m m') e done).hears j.base H refl (found_hears m s t (esi_of c) H b) in
              by_model s j e l flows f (λ x y. HearsBy s t H m' x y) (Some T) i
              (hears_alike s.width s.size (j.base + at.rise) m' _ _ (brings j.base H) heard);
        }
