-- Every list of packet calls has a run: each call has an answer, and a memory to leave, that its promise allows.
use Rattle.std.specs.Prelude.{◌≡◌, ◌≤◌, ◌<◌, ◌%◌, ◌∷◌, ◌≢◌, ◌+◌, ◌&&◌, Result, Ok, Err}
use Rattle.words.specs.Words.{arith, ℕ, List, length, refl, ◌∙◌, sym, ap, [], Some, None, subst, drop, some-injective}
use Rattle.words.specs.Words.{get_or, false, ltb, lt-ltb, le-ltb, dec_lt, mod-add-mod, none-ne-some, map, length-drop}
use Rattle.wire.specs.declared.Setting.{Setting}
use Rattle.wire.specs.Settings.{setting_of, Valid}
use Rattle.wire.proofs.Settings.{setting-names}
use Rattle.holding.specs.declared.Header.{Header}
use Rattle.starts.specs.Starts.{Starts, seen}
use Rattle.marks.specs.Marks.{marked, noted_in}
use Rattle.starts.specs.Settled.{Settled}
use Rattle.marks.proofs.Choosing.{with-starts}
use Rattle.starts.proofs.Settling.{pass_settled}
use Rattle.starts.proofs.Agreeing.{Agree}
use Rattle.wire.specs.Answers.{Said, value, refusal}
use Rattle.history.specs.History.{Located, Call, esi_of, Reading, fails, located, reading, memory_size, working_size, IsValue}
use Rattle.history.specs.Model.{Joined, State, opened, found_by, Outcome, refused, done, state_after, responds, answering, receiving, starts_after, marking}
use Rattle.history.specs.Model.{Origins, origins_after}
use Rattle.history.proofs.Origins.{origins-inside}
use Rattle.table.proofs.Offsets.{header-long}
use Rattle.marks.proofs.Only.{header_no_mark, past_no_mark}
use Rattle.origins.specs.Origins.{origin_at, heard_in}
use Rattle.holding.specs.Header.{header_in}
use Rattle.receiver.specs.Promises.{Follows, Received}
use Rattle.memory.specs.Contained.{Contained}
use Rattle.holding.specs.Layout.{header_of, Holds, HoldsWith, Marks, Hears}
use Rattle.receiver.specs.Layout.{receiver_layout}
use Rattle.holding.proofs.Flows.{flows-length, same_flows}
use Rattle.holding.proofs.Building.{built}
use Rattle.holding.proofs.Congruent.{on, Same, SameFrom, holds_same, held_same, found_same, Alike, both_refused, both_done, answering_alike, marking_alike}
use Rattle.holding.proofs.Congruent.{AgreeFrom, base_after, origins_alike}
use Rattle.history.proofs.Naming.{Sound, answering_sound}
use Rattle.holding.proofs.Headers.{header-room, header_fits, setting-of, setting_held}
use Rattle.admission.proofs.Joining.{found_stands, found_hears}
use Rattle.admission.proofs.Marking.{starts_holds, starts_contained}
use Rattle.claims.specs.Run.{Step, Run}
use Rattle.claims.specs.NotEmpty.{Asked, asked, AllOfBytes, RunsExist}
use Rattle.claims.proofs.Demand.{had_setting}
use Rattle.marks.specs.Marks as stored
use Rattle.origins.specs.Origins as origins
use Rattle.wire.specs.declared.Refusal.{Refusal}

module _ (s : Setting) (flows : List ℕ) (v : Valid s) where
  abbrev some_bytes : 0 < s.size
  some_bytes = let h = v.size_least in omega arith

  -- A state that a memory holds, of whatever setting.
  settings_same : (m : List ℕ) (t : State s) (u : Setting) (x : State u) → Holds m s t → Holds m u x → s ≡ u
  settings_same m t u x h k =
      sym (setting-of s t) ∙ ap (λ (y : Header). y.setting) (some-injective _ _ (sym h.header ∙ k.header)) ∙ setting-of u x

  -- So what holds of every such state of this setting, with these flows, holds of every one.
  each_held : (m : List ℕ) (t : State s) → HoldsWith m s flows t → (P : (u : Setting) (f : List ℕ) → State u → Type 0)
      → ((x : State s) → Holds m s x → P s flows x) → (u : Setting) (f : List ℕ) (x : State u) → HoldsWith m u f x → P u f x
  each_held m t h P g u f x k =
      subst (λ y. (x : State y) → Holds m y x → P y f x) (settings_same m t u x h.holds k.holds)
      (subst (λ e. (x : State s) → Holds m s x → P s e x) (sym h.kept ∙ k.kept) g) x k.holds

  receiving_alike : (t u : State s) (room : ℕ) (c : Call) → Same s t u → Alike s (receiving s flows t room c) (receiving s flows u room c)
  receiving_alike t u room c k = answering_alike s flows (found_by s t (esi_of c)) (found_by s u (esi_of c)) room c (found_same s t u (esi_of c) k)

  -- The call does, of every state that the memory holds, what it does of one.
  follows_all : (m m' : List ℕ) (a : Result ℕ Refusal) (t : State s) (room : ℕ) (c : Call) → HoldsWith m s flows t
      → Follows receiver_layout s flows (receiving s flows t room c) m m' a
      → (u : Setting) (f : List ℕ) (x : State u) → HoldsWith m u f x → Follows receiver_layout u f (receiving u f x room c) m m' a
  follows_all m m' a t room c h d =
      each_held m t h (λ u f x. Follows receiver_layout u f (receiving u f x room c) m m' a)
      (λ x k. one _ _ (receiving_alike t x room c (held_same s m t x h.holds k)) d)
    where
      one : (o p : Outcome s) → Alike s o p → Follows receiver_layout s flows o m m' a → Follows receiver_layout s flows p m m' a
      one o p (both_refused n) g = g
      one o p (both_done n y z e) (q, g) = (q, record { holds = holds_same s m' y z e g.holds; kept = g.kept })

  -- And so it leaves marks, of every state and marks that the memory has: those that the memory shows for the state as the packet finds it.
  abbrev now_marked : List ℕ → Joined s → Starts
  now_marked m j = marked s.width s.size (j.base % s.width) m

  -- The marks after the call, and what was read of it and came of it.
  abbrev MarksBy : (m m' : List ℕ) (room : ℕ) → Call → Starts → (u : Setting) (f : List ℕ) → State u → Type 0
  MarksBy m m' room c M u f x =
      let j = found_by u x (esi_of c) in
      let o = receiving u f x room c in
      Marks m u x M → Marks m' u (state_after x o) (marking u j M (reading u f j.base room c) o)

  found-bytes : (m : List ℕ) (x : State s) (e : ℕ) (M : Starts) → Marks m s x M → stored.Marks s.width s.size ((found_by s x e).base % s.width) m M
  found-bytes m None e M k = k (e % s.width)
  found-bytes m (Some t) e M k = k.bytes

  -- A refusal leaves all marks.
  refused_marks : (j : Joined s) (M : Starts) (n : ℕ) (r : Reading) → marking s j M r (refused n) ≡ M
  refused_marks j M n (fails k) = refl
  refused_marks j M n (located q) = refl

  was_refused : (n : ℕ) {p : Outcome s} → Alike s (refused n) p → p ≡ refused n
  was_refused n (both_refused k) = refl

  starts-refused : (m : List ℕ) (t : State s) (room : ℕ) (c : Call) (n : ℕ) → HoldsWith m s flows t → receiving s flows t room c ≡ refused n
      → (u : Setting) (f : List ℕ) (x : State u) (M : Starts) → HoldsWith m u f x → MarksBy m m room c M u f x
  starts-refused m t room c n h e u f x M = each_held m t h (MarksBy m m room c M) here u f x
    where
      here : (x : State s) → Holds m s x → MarksBy m m room c M s flows x
      here x k g =
          let j = found_by s x (esi_of c) in
          let z : receiving s flows x room c ≡ refused n =
          was_refused n (subst (λ o. Alike s o (receiving s flows x room c)) e (receiving_alike t x room c (held_same s m t x h.holds k))) in
          subst (λ o. Marks m s (state_after x o) (marking s j M (reading s flows j.base room c) o)) (sym z)
          (subst (Marks m s x) (sym (refused_marks j M n (reading s flows j.base room c))) g)

  after-pass : (x x' : Joined s) (q : Located) (M : Starts) (f : ℕ) → f ≢ 0
      → Settled s.size s.width (seen s.size s.width x'.window) f (starts_after s x x' q M)
  unfolding starts_after
  after-pass x x' q M f g = pass_settled s.size s.width (seen s.size s.width x'.window) f _ some_bytes g

  abbrev IsRefused : Outcome s → Type 0
  IsRefused (done n x) = ⊥
  IsRefused (refused n) = Unit {0}

  -- The marks of an accepted packet are settled, once an end past the window is noted.
  settled_after : (j : Joined s) (M : Starts) (f n : ℕ) (y : Joined s) → f ≢ 0 → (r : Reading) → responds s j r ≡ done n y
      → Settled s.size s.width (seen s.size s.width y.window) f (marking s j M r (done n y))
  settled_after j M f n y g (fails k) e = absurd (subst IsRefused e tt)
  settled_after j M f n y g (located q) e = after-pass j y q M f g

  settles_done : (j : Joined s) (M : Starts) (f n : ℕ) (y : Joined s) → f ≢ 0 → (room : ℕ) (c : Call) → answering s flows j room c ≡ done n y
      → Settled s.size s.width (seen s.size s.width y.window) f (marking s j M (reading s flows j.base room c) (done n y))
  unfolding answering
  settles_done j M f n y g room c z = settled_after j M f n y g (reading s flows j.base room c) z

  was_done : (n : ℕ) (x : Joined s) {p : Outcome s} → Alike s (done n x) p → (y : Joined s) × (p ≡ done n y) × SameFrom s x y
  was_done n x (both_done k t u e) = (u, refl, e)

  starts_done : (m m' : List ℕ) (t : State s) (room : ℕ) (c : Call) (n : ℕ) (y : Joined s) → HoldsWith m s flows t → receiving s flows t room c ≡ done n y
      → noted_in m' ≢ 0
      → let j = found_by s t (esi_of c) in
      stored.Marks s.width s.size (y.base % s.width) m' (marking s j (now_marked m j) (reading s flows j.base room c) (done n y))
      → (u : Setting) (f : List ℕ) (x : State u) (M : Starts) → HoldsWith m u f x → MarksBy m m' room c M u f x
  starts_done m m' t room c n y h e noted d u f x M = each_held m t h (MarksBy m m' room c M) here u f x
    where
      here : (x : State s) → Holds m s x → MarksBy m m' room c M s flows x
      here x k g =
          let j = found_by s t (esi_of c) in
          let i = found_by s x (esi_of c) in
          let same = held_same s m t x h.holds k in
          let found = found_same s t x (esi_of c) same in
          let agree : Agree s.width (now_marked m j) M =
          λ b q. ap (λ r. marked s.width s.size r m b) found.row ∙ found-bytes m x (esi_of c) M g b q in
          let (z, is, alike) = was_done n y (subst (λ o. Alike s o (receiving s flows x room c)) e (receiving_alike t x room c same)) in
          let after = marking_alike s flows j i room c (now_marked m j) M found agree in
          subst (λ o. Marks m' s (state_after x o) (marking s i M (reading s flows i.base room c) o)) (sym is)
          (record {
            bytes = λ b l.
                ap (λ r. marked s.width s.size r m' b) (sym alike.row) ∙ d b l
                ∙ ap (λ o. marking s j (now_marked m j) (reading s flows j.base room c) o b) (sym e) ∙ after b l
                ∙ ap (λ o. marking s i M (reading s flows i.base room c) o b) is;
            settled = settles_done i M (noted_in m') n z noted room c is;
          })

  -- And so it leaves what is heard: what the memory says of the window of the state as the packet finds it, and nothing past that.
  abbrev now_heard : List ℕ → Joined s → Origins
  now_heard m j x = ltb x (j.base + s.width) && heard_in s.width s.size m (x % s.width)

  abbrev HearsBy : (m m' : List ℕ) (room : ℕ) → Call → Origins → (u : Setting) (f : List ℕ) → State u → Type 0
  HearsBy m m' room c H u f x =
      let o = receiving u f x room c in
      Hears m u x H → Hears m' u (state_after x o) (origins_after (reading u f (found_by u x (esi_of c)).base room c) o H)

  -- Any origins that the memory has for a state agree with that.
  found_agree : (m : List ℕ) (j : Joined s) (x : State s) (e : ℕ) (H : Origins) → SameFrom s j (found_by s x e) → Hears m s x H
      → AgreeFrom j.base (found_by s x e).base (now_heard m j) H
  found_agree m j x e H same k i = go (dec_lt i s.width)
    where
      k' : origins.Hears s.width s.size (found_by s x e).base m H
      k' = found_hears m s x e H k

      go : Dec (i < s.width) → now_heard m j (j.base + i) ≡ H ((found_by s x e).base + i)
      go (yes l) =
          ap (λ b. b && heard_in s.width s.size m ((j.base + i) % s.width)) (lt-ltb (j.base + i) (j.base + s.width) (omega arith))
          ∙ ap (heard_in s.width s.size m) (on s.width j.base (found_by s x e).base i same.row) ∙ k'.window i l
      go (no l) =
          ap (λ b. b && heard_in s.width s.size m ((j.base + i) % s.width)) (le-ltb (j.base + i) (j.base + s.width) (omega arith))
          ∙ sym (k'.later i (omega arith))

  refused_heard : (H : Origins) (n : ℕ) (r : Reading) → origins_after {s = s} r (refused n) H ≡ H
  refused_heard H n (fails k) = refl
  refused_heard H n (located q) = refl

  heard_refused : (m : List ℕ) (t : State s) (room : ℕ) (c : Call) (n : ℕ) → HoldsWith m s flows t → receiving s flows t room c ≡ refused n
      → (u : Setting) (f : List ℕ) (x : State u) (H : Origins) → HoldsWith m u f x → HearsBy m m room c H u f x
  heard_refused m t room c n h e u f x H = each_held m t h (HearsBy m m room c H) here u f x
    where
      here : (x : State s) → Holds m s x → HearsBy m m room c H s flows x
      here x k g =
          let r = reading s flows (found_by s x (esi_of c)).base room c in
          let z : receiving s flows x room c ≡ refused n =
          was_refused n (subst (λ o. Alike s o (receiving s flows x room c)) e (receiving_alike t x room c (held_same s m t x h.holds k))) in
          subst (λ o. Hears m s (state_after x o) (origins_after r o H)) (sym z) (subst (Hears m s x) (sym (refused_heard H n r)) g)

  none_later : (j : Joined s) (room : ℕ) (c : Call) (n : ℕ) (y : Joined s) (H : Origins) → answering s flows j room c ≡ done n y
      → ((i : ℕ) → s.width ≤ i → H (j.base + i) ≡ false) → (i : ℕ) → s.width ≤ i
      → origins_after {s = s} (reading s flows j.base room c) (done n y) H (y.base + i) ≡ false
  unfolding answering
  none_later j room c n y H e f = origins-inside s some_bytes j (reading s flows j.base room c) n y H e f

  heard_done : (m m' : List ℕ) (t : State s) (room : ℕ) (c : Call) (n : ℕ) (y : Joined s) → HoldsWith m s flows t → receiving s flows t room c ≡ done n y
      → let j = found_by s t (esi_of c) in
      ((i : ℕ) → i < s.width → heard_in s.width s.size m' ((y.base + i) % s.width)
      ≡ origins_after {s = s} (reading s flows j.base room c) (done n y) (now_heard m j) (y.base + i))
      → (u : Setting) (f : List ℕ) (x : State u) (H : Origins) → HoldsWith m u f x → HearsBy m m' room c H u f x
  heard_done m m' t room c n y h e d u f x H = each_held m t h (HearsBy m m' room c H) here u f x
    where
      here : (x : State s) → Holds m s x → HearsBy m m' room c H s flows x
      here x k g =
          let j = found_by s t (esi_of c) in
          let i = found_by s x (esi_of c) in
          let r = reading s flows j.base room c in
          let q = reading s flows i.base room c in
          let same = held_same s m t x h.holds k in
          let found = found_same s t x (esi_of c) same in
          let (z, is, alike) = was_done n y (subst (λ o. Alike s o (receiving s flows x room c)) e (receiving_alike t x room c same)) in
          let after : AgreeFrom y.base z.base (origins_after {s = s} r (done n y) (now_heard m j)) (origins_after {s = s} q (done n z) H) =
          subst (λ o. AgreeFrom y.base (base_after s i o) (origins_after {s = s} r (done n y) (now_heard m j)) (origins_after q o H)) is
          (subst (λ o. AgreeFrom (base_after s j o) (base_after s i (answering s flows i room c)) (origins_after r o (now_heard m j))
          (origins_after q (answering s flows i room c) H)) e
          (origins_alike s flows j i room c (now_heard m j) H found (found_agree m j x (esi_of c) H found g))) in
          subst (λ o. Hears m' s (state_after x o) (origins_after q o H)) (sym is)
          (record {
            window = λ b l. ap (heard_in s.width s.size m') (sym (on s.width y.base z.base b alike.row)) ∙ d b l ∙ after b;
            later = none_later i room c n z H is (found_hears m s x (esi_of c) H g).later;
          })

  contained : (m m' w : List ℕ) (t : State s) → Holds m s t → Contained (memory_size s) m m' → (h : Header) → header_in m ≡ Some h
      → Contained (memory_size h.setting) m m' × Contained (working_size h.setting) w w
  contained m m' w t k d h e =
      (subst (λ y. Contained (memory_size y) m m') (sym (setting_held m h s t e k)) d, record { same = refl; past = refl })

  -- A byte of origins is no mark.
  untouched : (w E : ℕ) {m m' : List ℕ} → stored.OnlyStarts w E m m' → (r : ℕ) → get_or m' (origin_at w E r) 0 ≡ get_or m (origin_at w E r) 0
  untouched w E o r = o.others (origin_at w E r) (past_no_mark w E (origin_at w E r) (omega arith)) (λ e. omega (arith, header-long, e))

  -- Marks leave the flows too.
  starts_keep : (t : State s) (m m' : List ℕ) → HoldsWith m s flows t → 64 ≤ length m → stored.OnlyStarts s.width s.size m m' → HoldsWith m' s flows t
  starts_keep t m m' h room o = record {
    holds = starts_holds s t m m' h.holds o;
    kept = same_flows m m' room o.size
        (λ k l g. o.others k (header_no_mark s.width s.size k (omega (arith, header-long)) (λ e. omega (arith, l, e))) (λ e. omega (arith, l, e)))
        ∙ h.kept;
  }

  -- The next call.
  record Next (m : List ℕ) (t : State s) (c : Call) (w : List ℕ) : Type 0 where
    answer : Result ℕ Refusal
    memory : List ℕ
    received : Received receiver_layout c m memory w w answer
    state : State s
    held : HoldsWith memory s flows state

  next : (m : List ℕ) (t : State s) → HoldsWith m s flows t → (c : Call) (w : List ℕ) → Next m t c w
  next m t h c w =
      go (receiving s flows t (length w) c) refl
      (answering_sound s some_bytes flows (found_by s t (esi_of c)) (found_stands m s t (esi_of c) some_bytes h.holds).reduced (length w) c)
    where
      is-headed : header_in m ≡ None → ⊥
      is-headed e = none-ne-some _ (sym e ∙ h.holds.header)

      go : (o : Outcome s) → receiving s flows t (length w) c ≡ o → Sound s some_bytes o → Next m t c w
      go (refused n) e g = record {
        answer = Err g.refusal;
        memory = m;
        received = record {
          unopened = ((λ q. absurd (g.other (sym g.number ∙ ap number q))), (λ q. absurd (is-headed q)));
          untouched = λ _. refl;
          refused = λ k q. refl;
          contained = contained m m w t h.holds (record { same = refl; past = refl });
          follows = follows_all m m (Err g.refusal) t (length w) c h
              (subst (λ x. Follows receiver_layout s flows x m m (Err g.refusal)) (sym e) (ap refusal g.number, refl));
          starts = starts-refused m t (length w) c n h e;
          origins = heard_refused m t (length w) c n h e;
        };
        state = t;
        held = h;
      }
        where
          number : Said → ℕ
          number (value k) = k
          number (refusal k) = k
      go (done n x) e g =
          let j = found_by s t (esi_of c) in
          let r = reading s flows j.base (length w) c in
          let H = origins_after {s = s} r (done n x) (now_heard m j) in
          let b = built s flows v (flows-length m s flows t h) x g H (drop (memory_size s) m) in
          let room : memory_size s ≤ length m = subst (λ y. memory_size y ≤ length m) (setting-of s t) (header-room m (header_of s t) h.holds.header) in
          let fits = header_fits b.memory (header_of s (Some x)) b.holds.holds.header in
          let M = marking s j (now_marked m j) r (done n x) in
          let (m', only, marks, noted) = with-starts s.width s.size (x.base % s.width) M fits.some_width b.memory fits.room in
          let held = starts_keep (Some x) b.memory m' b.holds (omega (arith, fits.room, header-long)) only in
          record {
            answer = Ok n;
            memory = m';
            received = record {
              unopened = ((λ q. absurd (subst IsValue q tt)), (λ q. absurd (is-headed q)));
              untouched = λ q. refl;
              refused = λ k q. absurd (subst IsValue q tt);
              contained = contained m m' w t h.holds (record {
                same = only.size ∙ b.same ∙ omega (arith, length-drop (memory_size s) m, room);
                past = (starts_contained s b.memory m' only).past ∙ b.rest;
              });
              follows = follows_all m m' (Ok n) t (length w) c h (subst (λ y. Follows receiver_layout s flows y m m' (Ok n)) (sym e) (refl, held));
              starts = starts_done m m' t (length w) c n x h e (λ q. absurd (omega (arith, noted, q))) marks;
              origins = heard_done m m' t (length w) c n x h e (λ i l. ap (ltb 0) (untouched s.width s.size only _) ∙ b.heard i l);
            };
            state = Some x;
            held = held;
          }

  runs : (cs : List Asked) → AllOfBytes cs → (m : List ℕ) (t : State s) → HoldsWith m s flows t
      → (ts : List Step) × Run receiver_layout m ts × (map asked ts ≡ cs)
  runs [] k m t h = ([], tt, refl)
  runs (c ∷ cs) k m t h =
      let n = next m t h c.call c.working in
      let (ts, r, e) = runs cs k.1 n.memory n.state n.held in
      let u : Step = record { call = c.call; working = c.working; left = c.working; answer = n.answer; memory = n.memory } in
      (u ∷ ts, (k.0, n.received, r), ap (λ (l : List Asked). c ∷ l) e)

pub runs_exist : RunsExist
runs_exist scheme E w flows m₀ m a p e cs k =
    let (s, h) = had_setting (setting_of scheme E w) (length m₀) (sym p.answer ∙ e) in
    runs s flows (setting-names scheme E w s h).valid cs k m (opened s) (p.holds s h e)
