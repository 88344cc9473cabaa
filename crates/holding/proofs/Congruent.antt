-- A memory knows its base by two remainders. States that differ by no more than that are held by the same memories, and calls treat them alike.
-- Laws:
--   positions: on
--   states: SameFrom, Same, holds_same, held_same, found_same
--   calls: Alike, answering_alike
--   marks: marking_alike
--   origins: AgreeFrom, base_after, origins_alike
use Rattle.std.specs.Prelude.{◌≡◌, ◌≤◌, ◌+◌, ◌<◌, ◌-◌, ◌%◌, ◌^◌, ◌&&◌, ◌||◌}
use Rattle.words.specs.Words.{arith, ℕ, List, length, refl, ◌∙◌, sym, ap, Some, suc, true, zero, None, get_or, false, Bool, subst}
use Rattle.words.specs.Words.{Option, ap₂, leb, some-injective, map, mod-add-mod, true≢false, ltb, le-leb, lt-leb, lt-ltb, le-ltb, dec_lt}
use native.Mathlib.Decide.{dec_le}
use Rattle.wire.specs.declared.Setting.{Setting}
use Rattle.wire.specs.Packets.{source_symbols, source_adu, source_esi, protected_count, first_esi, repair_symbols}
use Rattle.decoder.specs.Bytes.{byte, Coded}
use Rattle.decoder.specs.Tuples.{Byte}
use Rattle.decoder.specs.Model.{Row, Rref, known}
use Rattle.decoder.specs.Table.{read, slot, view, Echelon}
use Rattle.history.proofs.Sides.{side_same}
use Rattle.holding.specs.declared.Header.{Header}
use Rattle.history.specs.History.{source, repair, Side, behind, ahead, side_of, Call, source-call, repair-call, Reading, fails, farthest, located, check}
use Rattle.history.specs.History.{from_side, read_source, read_repair, reading}
use Rattle.starts.specs.Starts.{Starts, also, moved, seen}
use Rattle.starts.proofs.Agreeing.{Agree, also_agree, moved_agree, pass_agree}
use Rattle.history.specs.Model.{Joined, State, found_by, Outcome, refused, done, added, responds, answering, starts_after, marking, Origins}
use Rattle.history.specs.Model.{bringing, origins_after}
use Rattle.holding.specs.Layout.{header_from, Holds}
use Rattle.decoder.specs.Model as model
use Rattle.decoder.specs.Receiver as decoder
use Rattle.decoder.specs.Packets as packets
use Rattle.table.specs.Window as window

-- ---- Memory

-- Positions that go on from congruent ones are congruent.
pub on : (w b c i : ℕ) → b % w ≡ c % w → (b + i) % w ≡ (c + i) % w
on w b c i h = sym (mod-add-mod b w i) ∙ ap (λ x. (x + i) % w) h ∙ mod-add-mod c w i

next : (w b c : ℕ) → b % w ≡ c % w → suc b % w ≡ suc c % w
next w b c h =
    let e : suc b ≡ b + 1 = omega arith in
    let g : c + 1 ≡ suc c = omega arith in
    ap (λ x. x % w) e ∙ on w b c 1 h ∙ ap (λ x. x % w) g

module _ (w E : ℕ) (m : List ℕ) where
  read_same : (l : List ℕ) (n q p : ℕ) → q % w ≡ p % w → read (window.line w E l) n q ≡ read (window.line w E l) n p
  unfolding read
  read_same l zero q p h = refl
  read_same l (suc n) q p h =
      ap₂ (λ a x. (a, x)) (ap (λ k. byte (get_or l k 0)) h) (read_same l n (suc q) (suc p) (next w q p h))

  view_same : (n q p : ℕ) → q % w ≡ p % w → view (window.table w E m) n q ≡ view (window.table w E m) n p
  unfolding view
  view_same zero q p h = refl
  view_same (suc n) q p h =
      ap₂ (λ (t : Bool) (r : Row (Coded E) n × model.State (Coded E) n). slot t r.0 r.1) (ap (λ k. window.in_use w E (window.row w E k m)) h)
      (ap₂ (λ x y. (x, y))
      (ap (λ k. read (window.line w E (window.row w E k m)) n (suc q)) h ∙ read_same (window.row w E (p % w) m) n (suc q) (suc p) (next w q p h))
      (view_same n (suc q) (suc p) (next w q p h)))

  echelon_same : (b c : ℕ) → b % w ≡ c % w → Echelon (window.table w E m) b w → Echelon (window.table w E m) c w
  echelon_same b c h e = record {
    one_at = λ q x y z.
        let k = at q x y in
        ap₂ cell (sym k) (sym k) ∙ e.one_at (b + (q - c)) (omega arith) (omega arith) (ap (λ r. window.in_use w E (window.row w E r m)) k ∙ z);
    zero-before = λ q x y z j u v.
        let k = at q x y in
        ap₂ cell (sym k) (sym (at j u (omega arith)))
        ∙ e.zero-before (b + (q - c)) (omega arith) (omega arith) (ap (λ r. window.in_use w E (window.row w E r m)) k ∙ z) (b + (j - c)) (omega arith)
        (omega arith);
  }
    where
      cell : ℕ → ℕ → Byte
      cell r k = byte (get_or (window.row w E r m) k 0)

      at : (q : ℕ) → c ≤ q → q < c + w → (b + (q - c)) % w ≡ q % w
      at q x y = let g : c + (q - c) ≡ q = omega arith in on w b c (q - c) h ∙ ap (λ z. z % w) g

  window_same : (b c : ℕ) (S : model.State (Coded E) w) → b % w ≡ c % w → window.Window w E m b S → window.Window w E m c S
  window_same b c S h k = record {
    echelon = echelon_same b c h k.echelon;
    reads = view_same w c b (sym h) ∙ k.reads;
    flags = k.flags;
  }

-- ---- States

-- The same window at congruent bases; or no base.
pub record SameFrom (s : Setting) (t u : Joined s) : Type 0 where
  pub row : t.base % s.width ≡ u.base % s.width
  pub esi : t.base % 2 ^ 32 ≡ u.base % 2 ^ 32
  pub window : t.window ≡ u.window

abbrev pub Same : (s : Setting) → State s → State s → Type 0
Same s None None = Unit {0}
Same s None (Some u) = ⊥
Same s (Some t) None = ⊥
Same s (Some t) (Some u) = SameFrom s t u

module _ (s : Setting) where
  open s use {size as E, width as w}

  header_same : (t u : Joined s) → SameFrom s t u → header_from s t ≡ header_from s u
  header_same t u k = ap₂ (λ r e. record { setting = s; joined = true; oldest = r; esi = record { 0 = e } }) k.row k.esi

  pub holds_same : (m : List ℕ) (t u : Joined s) → SameFrom s t u → Holds m s (Some t) → Holds m s (Some u)
  holds_same m t u k h = record {
    header = h.header ∙ ap Some (header_same t u k);
    rows = record {
      reduced = subst Rref k.window h.rows.reduced;
      rows = window_same w E m t.base u.base u.window k.row (subst (window.Window w E m t.base) k.window h.rows.rows);
    };
  }

  -- What one memory holds is the same.
  pub held_same : (m : List ℕ) (t u : State s) → Holds m s t → Holds m s u → Same s t u
  held_same m None None h k = tt
  held_same m None (Some u) h k = true≢false (sym (ap (λ (x : Header). x.joined) (some-injective _ _ (sym h.header ∙ k.header))))
  held_same m (Some t) None h k = true≢false (ap (λ (x : Header). x.joined) (some-injective _ _ (sym h.header ∙ k.header)))
  held_same m (Some t) (Some u) h k =
      let e : header_from s t ≡ header_from s u = some-injective _ _ (sym h.header ∙ k.header) in
      let r = ap (λ (x : Header). x.oldest) e in
      record {
        row = r;
        esi = ap (λ (x : Header). x.esi.0) e;
        window = sym h.rows.rows.reads ∙ view_same w E m w t.base u.base r ∙ k.rows.rows.reads;
      }

  -- A packet finds states that are the same the same.
  pub found_same : (t u : State s) (p : ℕ) → Same s t u → SameFrom s (found_by s t p) (found_by s u p)
  found_same None None p k = record { row = refl; esi = refl; window = refl }
  found_same None (Some u) p k = absurd k
  found_same (Some t) None p k = absurd k
  found_same (Some t) (Some u) p k = k

-- ---- Calls

-- One packet, read at two bases.
data Shifted (b c : ℕ) : Reading → Reading → Type 0 where
  both_fail : (n : ℕ) → Shifted b c (fails n) (fails n)
  both_source : (d : ℕ) (vs : List (List ℕ)) → Shifted b c (located (source (b + d) vs)) (located (source (c + d) vs))
  both_repair : (d n : ℕ) (cs vs : List (List ℕ)) → Shifted b c (located (repair (b + d) n cs vs)) (located (repair (c + d) n cs vs))

module _ (b c : ℕ) where
  check-shifted : (t : Bool) (n : ℕ) (r q : Reading) → Shifted b c r q → Shifted b c (check t n r) (check t n q)
  unfolding check
  check-shifted true n r q k = k
  check-shifted false n r q k = both_fail n

  side_shifted : (n : ℕ) (p : Side) (f g : ℕ → Reading) → ((d : ℕ) → Shifted b c (f d) (g d)) → Shifted b c (from_side n p f) (from_side n p g)
  unfolding from_side
  side_shifted n behind f g k = both_fail 8
  side_shifted n (ahead d) f g k = check-shifted (leb (d + n) farthest) 9 (f d) (g d) (k d)

  reading-shifted : (s : Setting) (flows : List ℕ) (room : ℕ) (call : Call) → b % 2 ^ 32 ≡ c % 2 ^ 32
      → Shifted b c (reading s flows b room call) (reading s flows c room call)
  unfolding reading read_source read_repair
  reading-shifted s flows room (source-call flow p) h =
      check-shifted _ 2 _ _
      (check-shifted _ 5 _ _
      (check-shifted _ 16 _ _
      (check-shifted _ 4 _ _
      (rw (side_same b c (source_esi p) h)
      (side_shifted _ (side_of c (source_esi p)) _ _ (λ d. both_source d (source_symbols flow (source_adu p) s.size)))))))
  reading-shifted s flows room (repair-call p) h =
      check-shifted _ 2 _ _
      (check-shifted _ 5 _ _
      (check-shifted _ 6 _ _
      (rw (side_same b c (first_esi p) h)
      (side_shifted _ (side_of c (first_esi p)) _ _ (λ d. check-shifted _ 10 _ _ (both_repair d (protected_count p) _ (repair_symbols s.size p)))))))

-- Outcomes that differ by no more than the base.
pub data Alike (s : Setting) : Outcome s → Outcome s → Type 0 where
  both_refused : (n : ℕ) → Alike s (refused n) (refused n)
  both_done : (n : ℕ) (t u : Joined s) → SameFrom s t u → Alike s (done n t) (done n u)

module _ (s : Setting) where
  open s use {size as E, width as w}

  -- A packet d ahead of the base b, of n positions.
  abbrev packet : (b d n : ℕ) → List (Row (Coded E) n) → decoder.Packet (Coded E)
  packet b d n rows = record { first = b + d; count = n; rows = rows }

  abbrev rise : (d n : ℕ) → ℕ
  rise d n = (d + n) - w

  abbrev inserted : (d n : ℕ) → List (Row (Coded E) n) → model.State (Coded E) w → Option (model.State (Coded E) w)
  inserted d n rows S = decoder.insert_all (map (decoder.embed (Coded E) w (d - rise d n) n) rows) (decoder.advance_by (rise d n) S)

  -- What receiving it comes to, by what its place makes of the window.
  receive_at : (b d n : ℕ) (rows : List (Row (Coded E) n)) (S : model.State (Coded E) w)
      → decoder.receive (record { base = b; window = S }) (packet b d n rows)
      ≡ decoder.and_then (inserted d n rows S) (λ T. Some (record { base = b + rise d n; window = T }))
  unfolding decoder.receive decoder.rise
  receive_at b d n rows S =
      let k : (b + d + n) - (b + w) ≡ rise d n = omega arith in
      let j : (b + d) - (b + rise d n) ≡ d - rise d n = omega arith in
      ap
      (λ x.
      decoder.and_then (decoder.insert_all (decoder.over (Coded E) w (b + x) (packet b d n rows)) (decoder.advance_by x S))
      (λ T. Some (record { base = b + x; window = T }))) k
      ∙ ap
      (λ x.
      decoder.and_then (decoder.insert_all (map (decoder.embed (Coded E) w x n) rows) (decoder.advance_by (rise d n) S))
      (λ T. Some (record { base = b + rise d n; window = T }))) j

  newly_at : (b k : ℕ) (S T : model.State (Coded E) w)
      → decoder.newly (record { base = b; window = S }) (record { base = b + k; window = T }) ≡ decoder.count_new w (known T) (λ i. known S (k + i))
  unfolding decoder.newly
  newly_at b k S T = let e : b + k - b ≡ k = omega arith in ap (λ x. decoder.count_new w (known T) (λ i. known S (x + i))) e

  added_alike : (b c k : ℕ) (S : model.State (Coded E) w) (o : Option (model.State (Coded E) w)) → b % w ≡ c % w → b % 2 ^ 32 ≡ c % 2 ^ 32
      → Alike s (added s (record { base = b; window = S }) (decoder.and_then o (λ T. Some (record { base = b + k; window = T }))))
      (added s (record { base = c; window = S }) (decoder.and_then o (λ T. Some (record { base = c + k; window = T }))))
  added_alike b c k S None h g = both_refused 11
  added_alike b c k S (Some T) h g =
      rw (newly_at b k S T, newly_at c k S T)
      (both_done _ _ _ (record { row = on w b c k h; esi = on (2 ^ 32) b c k g; window = refl }))

  packet_alike : (b c d n : ℕ) (rows : List (Row (Coded E) n)) (S : model.State (Coded E) w) → b % w ≡ c % w → b % 2 ^ 32 ≡ c % 2 ^ 32
      → Alike s (added s (record { base = b; window = S }) (decoder.receive (record { base = b; window = S }) (packet b d n rows)))
      (added s (record { base = c; window = S }) (decoder.receive (record { base = c; window = S }) (packet c d n rows)))
  packet_alike b c d n rows S h g =
      rw (receive_at b d n rows S, receive_at c d n rows S) (added_alike b c (rise d n) S (inserted d n rows S) h g)

  responds_alike : (b c : ℕ) (S : model.State (Coded E) w) (r q : Reading) → b % w ≡ c % w → b % 2 ^ 32 ≡ c % 2 ^ 32 → Shifted b c r q
      → Alike s (responds s (record { base = b; window = S }) r) (responds s (record { base = c; window = S }) q)
  unfolding packets.source packets.repair
  responds_alike b c S r q h g (both_fail n) = both_refused n
  responds_alike b c S r q h g (both_source d vs) = packet_alike b c d (length vs) _ S h g
  responds_alike b c S r q h g (both_repair d n cs vs) = packet_alike b c d n _ S h g

  -- A packet call comes to the same.
  pub answering_alike : (flows : List ℕ) (t u : Joined s) (room : ℕ) (c : Call) → SameFrom s t u
      → Alike s (answering s flows t room c) (answering s flows u room c)
  unfolding answering
  answering_alike flows t u room c k =
      subst
      (λ S. Alike s (responds s t (reading s flows t.base room c)) (responds s (record { base = u.base; window = S }) (reading s flows u.base room c)))
      k.window
      (responds_alike t.base u.base t.window _ _ k.row k.esi (reading-shifted t.base u.base s flows room c k.esi))

-- ---- Marks

module _ (s : Setting) where
  open s use {size as E, width as w}

  -- After a packet that is read at two bases, marks that agree do.
  naming_agree : (b c d n k : ℕ) (M N : Starts) → Agree w M N → Agree w (also (b + d - (b + k)) (also (b + d + n - (b + k)) M))
      (also (c + d - (c + k)) (also (c + d + n - (c + k)) N))
  naming_agree b c d n k M N a i l =
      let e : b + d - (b + k) ≡ c + d - (c + k) = omega arith in
      let f : b + d + n - (b + k) ≡ c + d + n - (c + k) = omega arith in
      ap₂ (λ x y. also x (also y M) i) e f
      ∙ also_agree w (also (c + d + n - (c + k)) M) (also (c + d + n - (c + k)) N) (also_agree w M N a (c + d + n - (c + k))) (c + d - (c + k)) i l

  rising_agree : (b c k : ℕ) (M N : Starts) → Agree w M N → Agree w (moved w (b + k - b) M) (moved w (c + k - c) N)
  rising_agree b c k M N a i l =
      let e : b + k - b ≡ c + k - c = omega arith in
      ap (λ x. moved w x M i) e ∙ moved_agree w M N a (c + k - c) i l

  module _ (b c : ℕ) (S : model.State (Coded E) w) (M N : Starts) (a : Agree w M N) where
    abbrev one : Joined s
    one = record { base = b; window = S }

    abbrev other : Joined s
    other = record { base = c; window = S }

    source_agree : (d k : ℕ) (vs : List (List ℕ)) (o : Option (model.State (Coded E) w))
        → Agree w (marking s one M (located (source (b + d) vs)) (added s one (decoder.and_then o (λ T. Some (record { base = b + k; window = T })))))
        (marking s other N (located (source (c + d) vs)) (added s other (decoder.and_then o (λ T. Some (record { base = c + k; window = T })))))
    unfolding starts_after
    source_agree d k vs None i l = a i l
    source_agree d k vs (Some T) i l =
        pass_agree w E (seen E w T) _ _ (naming_agree b c d (length vs) k _ _ (rising_agree b c k M N a)) w (omega arith) i l

    repair_agree : (d n k : ℕ) (cs vs : List (List ℕ)) (o : Option (model.State (Coded E) w))
        → Agree w (marking s one M (located (repair (b + d) n cs vs)) (added s one (decoder.and_then o (λ T. Some (record { base = b + k; window = T })))))
        (marking s other N (located (repair (c + d) n cs vs)) (added s other (decoder.and_then o (λ T. Some (record { base = c + k; window = T })))))
    unfolding starts_after
    repair_agree d n k cs vs None i l = a i l
    repair_agree d n k cs vs (Some T) i l = pass_agree w E (seen E w T) _ _ (rising_agree b c k M N a) w (omega arith) i l

    source-packet : (d n : ℕ) (vs : List (List ℕ)) (rows : List (Row (Coded E) n))
        → Agree w (marking s one M (located (source (b + d) vs)) (added s one (decoder.receive one (packet s b d n rows))))
        (marking s other N (located (source (c + d) vs)) (added s other (decoder.receive other (packet s c d n rows))))
    source-packet d n vs rows i l =
        rw (receive_at s b d n rows S, receive_at s c d n rows S) (source_agree d (rise s d n) vs (inserted s d n rows S) i l)

    repair-packet : (d n : ℕ) (cs vs : List (List ℕ)) (rows : List (Row (Coded E) n))
        → Agree w (marking s one M (located (repair (b + d) n cs vs)) (added s one (decoder.receive one (packet s b d n rows))))
        (marking s other N (located (repair (c + d) n cs vs)) (added s other (decoder.receive other (packet s c d n rows))))
    repair-packet d n cs vs rows i l =
        rw (receive_at s b d n rows S, receive_at s c d n rows S) (repair_agree d n (rise s d n) cs vs (inserted s d n rows S) i l)

    marking_shifted : (r q : Reading) → Shifted b c r q → Agree w (marking s one M r (responds s one r)) (marking s other N q (responds s other q))
    unfolding packets.source packets.repair
    marking_shifted r q (both_fail n) i l = a i l
    marking_shifted r q (both_source d vs) i l = source-packet d (length vs) vs _ i l
    marking_shifted r q (both_repair d n cs vs) i l = repair-packet d n cs vs _ i l

  -- The marks after a packet call.
  pub marking_alike : (flows : List ℕ) (t u : Joined s) (room : ℕ) (c : Call) (M N : Starts) → SameFrom s t u → Agree w M N
      → Agree w (marking s t M (reading s flows t.base room c) (answering s flows t room c))
      (marking s u N (reading s flows u.base room c) (answering s flows u room c))
  unfolding answering
  marking_alike flows t u room c M N k a =
      let r = reading s flows t.base room c in
      let q = reading s flows u.base room c in
      subst (λ S. let x : Joined s = record { base = u.base; window = S } in Agree w (marking s t M r (responds s t r)) (marking s x N q (responds s x q)))
      k.window
      (marking_shifted t.base u.base t.window M N a r q (reading-shifted t.base u.base s flows room c k.esi))

-- ---- Origins

-- From two bases on the same positions are heard.
abbrev pub AgreeFrom : (b c : ℕ) → Origins → Origins → Type 0
AgreeFrom b c H K = (i : ℕ) → H (b + i) ≡ K (c + i)

shift_leb : (b c d j : ℕ) → leb (b + d) (b + j) ≡ leb (c + d) (c + j)
shift_leb b c d j = go (dec_le d j)
  where
    go : Dec (d ≤ j) → leb (b + d) (b + j) ≡ leb (c + d) (c + j)
    go (yes h) = le-leb (b + d) (b + j) (omega arith) ∙ sym (le-leb (c + d) (c + j) (omega arith))
    go (no h) = lt-leb (b + d) (b + j) (omega arith) ∙ sym (lt-leb (c + d) (c + j) (omega arith))

shift_ltb : (b c d j : ℕ) → ltb (b + d) (b + j) ≡ ltb (c + d) (c + j)
shift_ltb b c d j = go (dec_lt d j)
  where
    go : Dec (d < j) → ltb (b + d) (b + j) ≡ ltb (c + d) (c + j)
    go (yes h) = lt-ltb (b + d) (b + j) (omega arith) ∙ sym (lt-ltb (c + d) (c + j) (omega arith))
    go (no h) = le-ltb (b + d) (b + j) (omega arith) ∙ sym (le-ltb (c + d) (c + j) (omega arith))

-- So it is after a packet that is read at two bases, which has brought both k positions on.
bringing_agree : (b c d n k : ℕ) (H K : Origins) → AgreeFrom b c H K → AgreeFrom (b + k) (c + k) (bringing (b + d) n H) (bringing (c + d) n K)
bringing_agree b c d n k H K a i =
    let e : b + k + i ≡ b + (k + i) = omega arith in
    let f : c + (k + i) ≡ c + k + i = omega arith in
    let g : b + d + n ≡ b + (d + n) = omega arith in
    let h : c + (d + n) ≡ c + d + n = omega arith in
    ap (bringing (b + d) n H) e
    ∙ ap₂ (λ x y. x || y)
    (ap₂ (λ x y. x && y) (shift_leb b c d (k + i)) (ap (ltb (b + (k + i))) g ∙ shift_ltb b c (k + i) (d + n) ∙ ap (ltb (c + (k + i))) h)) (a (k + i))
    ∙ ap (bringing (c + d) n K) f

later_agree : (b c k : ℕ) (H K : Origins) → AgreeFrom b c H K → AgreeFrom (b + k) (c + k) H K
later_agree b c k H K a i =
    let e : b + k + i ≡ b + (k + i) = omega arith in
    let f : c + (k + i) ≡ c + k + i = omega arith in
    ap H e ∙ a (k + i) ∙ ap K f

module _ (s : Setting) where
  open s use {size as E, width as w}

  -- The base after a call that finds the receiver so.
  abbrev pub base_after : Joined s → Outcome s → ℕ
  base_after t (refused n) = t.base
  base_after t (done n u) = u.base

  -- What is heard after a call at t and after one at u agrees.
  abbrev HeardAlike : (t u : Joined s) → Origins → Origins → (r q : Reading) → (o p : Outcome s) → Type 0
  HeardAlike t u H K r q o p = AgreeFrom (base_after t o) (base_after u p) (origins_after r o H) (origins_after q p K)

  module _ (b c : ℕ) (S : model.State (Coded E) w) (H K : Origins) (a : AgreeFrom b c H K) where
    abbrev left : Joined s
    left = record { base = b; window = S }

    abbrev right : Joined s
    right = record { base = c; window = S }

    -- A packet that is taken raises both bases by k.
    abbrev taken : Joined s → (k : ℕ) → Option (model.State (Coded E) w) → Outcome s
    taken t k o = added s t (decoder.and_then o (λ T. Some (record { base = t.base + k; window = T })))

    source_heard : (d k : ℕ) (vs : List (List ℕ)) (o : Option (model.State (Coded E) w))
        → HeardAlike left right H K (located (source (b + d) vs)) (located (source (c + d) vs)) (taken left k o) (taken right k o)
    source_heard d k vs None = a
    source_heard d k vs (Some T) = bringing_agree b c d (length vs) k H K a

    repair_heard : (d n k : ℕ) (cs vs : List (List ℕ)) (o : Option (model.State (Coded E) w))
        → HeardAlike left right H K (located (repair (b + d) n cs vs)) (located (repair (c + d) n cs vs)) (taken left k o) (taken right k o)
    repair_heard d n k cs vs None = a
    repair_heard d n k cs vs (Some T) = later_agree b c k H K a

    packet_heard : (d n : ℕ) (r q : Reading) (rows : List (Row (Coded E) n))
        → ((k : ℕ) (o : Option (model.State (Coded E) w)) → HeardAlike left right H K r q (taken left k o) (taken right k o))
        → HeardAlike left right H K r q (added s left (decoder.receive left (packet s b d n rows)))
        (added s right (decoder.receive right (packet s c d n rows)))
    packet_heard d n r q rows f = rw (receive_at s b d n rows S, receive_at s c d n rows S) (f (rise s d n) (inserted s d n rows S))

    heard_shifted : (r q : Reading) → Shifted b c r q → HeardAlike left right H K r q (responds s left r) (responds s right q)
    unfolding packets.source packets.repair
    heard_shifted r q (both_fail n) = a
    heard_shifted r q (both_source d vs) = packet_heard d (length vs) r q _ (λ k. source_heard d k vs)
    heard_shifted r q (both_repair d n cs vs) = packet_heard d n r q _ (λ k. repair_heard d n k cs vs)

  -- What is heard after a packet call.
  pub origins_alike : (flows : List ℕ) (t u : Joined s) (room : ℕ) (c : Call) (H K : Origins) → SameFrom s t u → AgreeFrom t.base u.base H K
      → HeardAlike t u H K (reading s flows t.base room c) (reading s flows u.base room c) (answering s flows t room c) (answering s flows u room c)
  unfolding answering
  origins_alike flows t u room c H K k a =
      let r = reading s flows t.base room c in
      let q = reading s flows u.base room c in
      subst (λ S. let x : Joined s = record { base = u.base; window = S } in HeardAlike t x H K r q (responds s t r) (responds s x q)) k.window
      (heard_shifted t.base u.base t.window H K a r q (reading-shifted t.base u.base s flows room c k.esi))
