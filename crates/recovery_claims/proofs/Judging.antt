-- What is claimed holds of every list of packet calls that the promises allow.
-- Index
--   Stands: the memory holds a system that tracks the packets accepted, and says which were heard
--   heard_more: which symbols are heard after one packet more
--   step, stands, each: a call, the calls, each of them
--   symbol_judged: what the calls that show a symbol answer
--   every_list
use denote.Ref.{Bor}
use Rattle.std.specs.Prelude.{◌≡◌, ◌≤◌, ◌+◌, ◌<◌, ◌∷◌, ◌++◌, ◌↔◌, ◌⊎◌, ◌≢◌, Result, Ok, Err}
use Rattle.words.specs.Words.{arith, ℕ, List, length, refl, ◌∙◌, sym, ap, [], Some, None, true, false, Bool, subst, Option}
use Rattle.words.specs.Words.{ℕ_discrete, dec_lt, lt-ltb, le-ltb, zero-add, true≢false, inr, inl, cond}
use Rattle.memory.specs.Part.{part}
use Rattle.wire.specs.Answers.{Said, value, refusal, said}
use Rattle.decoder.specs.Model.{insert, known}
use Rattle.decoder.specs.Receiver.{Accepted, newly}
use Rattle.history.specs.Symbol.{Symbol, bytes_of}
use Rattle.history.specs.History.{Filling, All, Consistent, Known, Counted, IsValue, OfBytes}
use Rattle.history.specs.Model.{Finding, shows, hides, Origins, bringing, unheard}
use Rattle.history.proofs.Cases.{IsRefusal, numeral}
use Rattle.history.proofs.Counting.{count_counted}
use Rattle.origins.proofs.Filling.{brought_in, brought_out}
use Rattle.receiver.specs.Answers.{shown_of}
use Rattle.claims.specs.Run.{Step, final}
use Rattle.recovery.specs.Block.{Packet, Formed, all_say, HeardAs, Heard, HeardCount}
use Rattle.recovery.specs.Model.{equation_of, Tracks, Tracking}
use Rattle.recovery.proofs.Recovery.{recovery, counts}
use Rattle.recovery.proofs.Tracking.{tracking, known_is}
use Rattle.blocks.specs.declared.Block.{Block}
use Rattle.blocks.specs.Block.{block_of, Valid}
use Rattle.blocks.proofs.Values.{good_names}
use Rattle.block_receiver.specs.Reading.{Reading, fails, located}
use Rattle.block_receiver.specs.Model.{System, opened, added, responds, receiving, shown, finding, hearing, origins_after}
use Rattle.block_receiver.specs.Promises.{Layout, opening, Opened, Follows, Received, Finds, SymbolShown, Shows, PartShown, Places, PlaceAnswered}
use Rattle.block_receiver.proofs.Finding.{past_finding, inside_finding}
use Rattle.recovery_claims.specs.Run.{Run, logged, read, goes_on, accepted}
use Rattle.recovery_claims.specs.Judged.{Agrees, New, CallJudged, SymbolJudged, Recovers, EveryList}
use Rattle.recovery_claims.proofs.Reading.{IsLocated, IsFails, packet_is, number_is, reading_formed}
use Rattle.wire.specs.declared.Refusal.{Refusal}

-- ---- Heard

-- The memory's origins are the source packets accepted.
abbrev pub HeardBy : (k : ℕ) → List Packet → Origins → Type 0
HeardBy k ps H = (e : ℕ) → e < k → (H e ≡ true) ↔ Heard ps e

heard_same : (p : Packet) (ps : List Packet) (e : ℕ) → p.esi ≢ e → Heard (p ∷ ps) e ↔ Heard ps e
heard_same p ps e n = ((λ (v, h). go v h), (λ (v, h). (v, inr h)))
  where
    go : (v : List ℕ) → HeardAs (p ∷ ps) e v → Heard ps e
    go v (inl h) = absurd (n h.0)
    go v (inr h) = (v, h)

-- After one packet more.
pub heard_more : (b : Block) (p : Packet) (ps : List Packet) (H : Origins) → HeardBy b.k ps H → HeardBy b.k (p ∷ ps) (hearing b p H)
heard_more b p ps H h e l = go (dec_lt p.esi b.k) (ℕ_discrete p.esi e)
  where
    inside : p.esi < b.k → hearing b p H e ≡ bringing p.esi 1 H e
    inside i = ap (λ (t : Bool). cond t (bringing p.esi 1 H) H e) (lt-ltb p.esi b.k i)

    outside : b.k ≤ p.esi → hearing b p H e ≡ H e
    outside i = ap (λ (t : Bool). cond t (bringing p.esi 1 H) H e) (le-ltb p.esi b.k i)

    apart : p.esi ≢ e → (e < p.esi) ⊎ (p.esi + 1 ≤ e)
    apart n = side (dec_lt e p.esi)
      where
        side : Dec (e < p.esi) → (e < p.esi) ⊎ (p.esi + 1 ≤ e)
        side (yes q) = inl q
        side (no q) = inr (omega (arith, n))

    same : hearing b p H e ≡ H e → p.esi ≢ e → (hearing b p H e ≡ true) ↔ Heard (p ∷ ps) e
    same q n = (
      (λ z. (heard_same p ps e n).1 ((h e l).0 (sym q ∙ z))),
      (λ z. q ∙ (h e l).1 ((heard_same p ps e n).0 z)),
    )

    go : Dec (p.esi < b.k) → Dec (p.esi ≡ e) → (hearing b p H e ≡ true) ↔ Heard (p ∷ ps) e
    go (yes i) (yes q) = (
      (λ _. (p.symbol, inl (q, refl))),
      (λ _. inside i ∙ brought_in p.esi 1 e H (omega (arith, q)) (omega (arith, q))),
    )
    go (yes i) (no n) = same (inside i ∙ brought_out p.esi 1 e H (apart n)) n
    go (no i) d = same (outside (omega arith)) (λ q. i (omega (arith, q, l)))

-- ---- The calls

module _ (L : Layout) (b : Block) (v : Valid b) where
  open b use {size as E, k}

  some_bytes : 0 < E
  some_bytes = omega (arith, v.size_least)

  few : k ≤ 255
  few = let w = v.values in omega (arith, w.1, w.2)

  theory : Tracking E k
  theory = tracking E k some_bytes few

  -- The memory holds a system that tracks the packets accepted, and says which were heard.
  pub record Stands (m : List ℕ) (ps : List Packet) : Type 0 where
    pub system : System b
    pub held : L.Holds m b system
    pub tracks : Tracks E k ps system
    pub origins : Origins
    pub hears : L.Hears m b origins
    pub heard : HeardBy k ps origins

  stays : (m m' : List ℕ) (ps : List Packet) → m' ≡ m → Stands m ps → Stands m' ps
  stays m m' ps e g = subst (λ x. Stands x ps) (sym e) g

  -- A check fails.
  judged_failed : (ps : List Packet) (n : ℕ) (a : Said) → a ≡ refusal n → CallJudged b ps (fails n) a
  judged_failed ps n a e = record {
    accepted = ((λ h. absurd (subst IsValue e h)), (λ (p, q, c). absurd (subst IsFails q tt)));
    counted = λ p x q z. absurd (subst IsFails q tt);
    failed = λ x q. e ∙ ap refusal (ap number_is q);
    contradicts = λ p q. absurd (subst IsFails q tt);
  }

  -- The packet contradicts.
  judged_none : (ps : List Packet) (p : Packet) (a : Said) → a ≡ refusal 11 → ¬ Agrees b ps p → CallJudged b ps (located p) a
  judged_none ps p a e n = record {
    accepted = ((λ h. absurd (subst IsValue e h)), (λ (q, r, c). absurd (n (subst (Agrees b ps) (sym (ap (packet_is q) r)) c))));
    counted = λ q x r z. absurd (subst IsValue (sym z ∙ e) tt);
    failed = λ x r. absurd (subst IsLocated r tt);
    contradicts = λ q r. ((λ _. subst (λ y. ¬ Agrees b ps y) (ap (packet_is q) r) n), (λ _. e));
  }

  -- It joins those before.
  judged_some : (ps : List Packet) (p : Packet) (n : ℕ) (a : Said) → a ≡ value n → Agrees b ps p → Counted (New b ps p) k n → CallJudged b ps (located p) a
  judged_some ps p n a e c t = record {
    accepted = ((λ _. (p, refl, c)), (λ _. subst IsValue (sym e) tt));
    counted = λ q x r z.
        let i : n ≡ x = ap numeral (sym e ∙ z) in
        subst (λ y. Counted (New b ps y) k x) (ap (packet_is q) r) (subst (Counted (New b ps p) k) i t);
    failed = λ x r. absurd (subst IsLocated r tt);
    contradicts = λ q r. (
      (λ z. absurd (subst IsValue (sym e ∙ z) tt)),
      (λ n. absurd (n (subst (Agrees b ps) (ap (packet_is q) r) c))),
    );
  }

  -- How many have become known.
  tally : (ps : List Packet) (p : Packet) (S T : System b) → Tracks E k ps S → Tracks E k (p ∷ ps) T
      → Counted (New b ps p) k (newly (record { base = 0; window = S }) (record { base = 0; window = T }))
  unfolding newly
  tally ps p S T s t =
      let now = known_is E k some_bytes few (p ∷ ps) T t in
      let before = known_is E k some_bytes few ps S s in
      count_counted k (known T) _ (New b ps p)
      (λ i.
      let e : 0 + i ≡ i = zero-add i in (
        (λ a. ((now i).1 a.0, λ c. a.1 ((before i).0 (subst (λ j. Accepted (known S j)) e c)))),
        (λ a. ((now i).0 a.0, λ c. a.1 (subst (λ j. Accepted (known S j)) (sym e) ((before i).1 c)))),
      ))

  module _ (m : List ℕ) (ps : List Packet) (t : Step) (g : Stands m ps) (w : OfBytes t.call)
      (p : Received L t.call m t.memory t.working t.left t.answer) where
    abbrev S : System b
    S = g.system

    did : (r : Reading) → read b t ≡ r → Follows L b (responds b S r) m t.memory t.answer
    unfolding receiving
    did r e = subst (λ x. Follows L b (responds b S x) m t.memory t.answer) e (p.follows b S g.held)

    heard_after : (r : Reading) → read b t ≡ r → L.Hears t.memory b (origins_after b r (responds b S r) g.origins)
    unfolding receiving
    heard_after r e = subst (λ x. L.Hears t.memory b (origins_after b x (responds b S x) g.origins)) e (p.origins b S g.origins g.held g.hears)

    by : (r : Reading) → read b t ≡ r → CallJudged b ps r (said t.answer) × Stands t.memory (logged ps r (said t.answer))
    by (fails n) e = let (a, q) = did (fails n) e in (judged_failed ps n (said t.answer) a, stays m t.memory ps q g)
    by (located x) e = go (insert S (equation_of E k x)) refl
      where
        formed : Formed E x
        formed = reading_formed b v (length t.working) t.call x w e

        go : (o : Option (System b)) → insert S (equation_of E k x) ≡ o
            → CallJudged b ps (located x) (said t.answer) × Stands t.memory (logged ps (located x) (said t.answer))
        go None i =
            let (a, q) = subst (λ y. Follows L b (added b S y) m t.memory t.answer) i (did (located x) e) in
            let h = stays m t.memory ps q g in (
              judged_none ps x (said t.answer) a ((theory.contradicts ps S g.tracks x formed).0 i),
              subst (λ y. Stands t.memory (logged ps (located x) y)) (sym a) h,
            )
        go (Some T) i =
            let (a, held) = subst (λ y. Follows L b (added b S y) m t.memory t.answer) i (did (located x) e) in
            let after : Tracks E k (x ∷ ps) T = theory.goes_on ps S T g.tracks x formed i in
            let hears = subst (λ y. L.Hears t.memory b (origins_after b (located x) (added b S y) g.origins)) i (heard_after (located x) e) in (
              judged_some ps x _ (said t.answer) a (theory.agrees (x ∷ ps) T after) (tally ps x S T g.tracks after),
              subst (λ y. Stands t.memory (logged ps (located x) y)) (sym a)
                  (record {
                    system = T;
                    held = held;
                    tracks = after;
                    origins = hearing b x g.origins;
                    hears = hears;
                    heard = heard_more b x ps g.origins g.heard;
                  }),
            )

    pub step : CallJudged b ps (read b t) (said t.answer) × Stands t.memory (logged ps (read b t) (said t.answer))
    step = by (read b t) refl

  pub stands : (ts : List Step) (m : List ℕ) (ps : List Packet) → Stands m ps → Run L m ts → Stands (final m ts) (goes_on b ps ts)
  stands [] m ps g r = g
  stands (t ∷ ts) m ps g r = stands ts t.memory _ (step m ps t g r.0 r.1).1 r.2

  each : (before : List Step) (t : Step) (after : List Step) (m : List ℕ) (ps : List Packet) → Stands m ps → Run L m (before ++ (t ∷ after))
      → CallJudged b (goes_on b ps before) (read b t) (said t.answer)
  each [] t after m ps g r = (step m ps t g r.0 r.1).0
  each (u ∷ before) t after m ps g r = each before t after u.memory _ (step m ps u g r.0 r.1).1 r.2

  -- ---- The calls that show a symbol

  module _ (m : List ℕ) (ps : List Packet) (g : Stands m ps) (n e : ℕ) (c : HeardCount ps n) where
    abbrev K : System b
    K = g.system

    -- What they find.
    finds : (o : Finding E) → finding b K e ≡ o → (a : Result Bool Refusal) → SymbolShown L m e a → Finds L o (shown_of a)
    finds o q a p = subst (λ x. Finds L x (shown_of a)) q (p.finds b K g.held)

    part-is : (o : Finding E) → finding b K e ≡ o → (memory part : Bor (List ℕ)) → memory.now ≡ m → PartShown L memory part e → Shows L b o memory part
    part-is o q memory part z p = subst (λ x. Shows L b x memory part) q (p.shows b K (subst (λ x. L.Holds x b K) (sym z) g.held))

    place_is : (o : Finding E) → finding b K e ≡ o → (a : Result ℕ Refusal) → PlaceAnswered L m e a → Places L b o m a
    place_is o q a p = subst (λ x. Places L b x m a) q (p.places b K g.held)

    abbrev said_heard : Result Bool Refusal → Bool
    said_heard (Ok x) = x
    said_heard (Err x) = false

    -- Past the k-th.
    past : k ≤ e → SymbolJudged b L m ps n e
    past l = record {
      answers = λ a p. inr (finds (hides 12) (past_finding b K e l) a p);
      shown = λ a p. ((λ z. absurd (subst IsValue (sym z ∙ finds (hides 12) (past_finding b K e l) a p) tt)), (λ h. absurd (omega (arith, h.0))));
      known = λ a p. ((λ z. absurd (subst IsValue (sym z ∙ finds (hides 12) (past_finding b K e l) a p) tt)), (λ h. absurd (omega (arith, h.0))));
      bytes = λ memory part z p h. absurd (omega (arith, h));
      nothing = λ memory part z p h. part-is (hides 12) (past_finding b K e l) memory part z p;
      place = λ a p h. absurd (omega (arith, h));
      nowhere = λ a p h. place_is (hides 12) (past_finding b K e l) a p;
      heard = λ a p. ((λ z. absurd (subst IsValue (sym (ap (λ x. said (shown_of x)) z) ∙ finds (hides 12) (past_finding b K e l) a p) tt)), (λ h. absurd (omega (arith, h.0))));
    }

    module _ (l : e < k) where
      exactly : Accepted (known K e) ↔ Known E (all_say k ps) e
      exactly = known_is E k some_bytes few ps K g.tracks e

      told : Accepted (known K e) ↔ ((k ≤ n) ⊎ Heard ps e)
      told = theory.shows ps K g.tracks n c e l

      here : (o : Option (Symbol E)) → known K e ≡ o → finding b K e ≡ shown b e o
      here o q = inside_finding b K e l ∙ ap (shown b e) q

      zero-or_twelve : (o : Option (Symbol E)) (a : Result ℕ Refusal) → Finds L (shown b e o) a → (said a ≡ value 0) ⊎ (said a ≡ refusal 12)
      zero-or_twelve None a q = inr q
      zero-or_twelve (Some x) a q = inl q

      zero_exactly : (o : Option (Symbol E)) (a : Result ℕ Refusal) → Finds L (shown b e o) a → (said a ≡ value 0) ↔ Accepted o
      zero_exactly None a q = ((λ h. absurd (subst IsValue (sym h ∙ q) tt)), (λ h. absurd h))
      zero_exactly (Some x) a q = ((λ _. tt), (λ _. q))

      zero_is : (a : Result Bool Refusal) → SymbolShown L m e a → (said (shown_of a) ≡ value 0) ↔ Accepted (known K e)
      zero_is a p = zero_exactly (known K e) (shown_of a) (finds (shown b e (known K e)) (here (known K e) refl) a p)

      bytes_here : (memory part : Bor (List ℕ)) (o : Option (Symbol E)) → known K e ≡ o → Shows L b (shown b e o) memory part
          → Accepted o → (f : Filling E) → All E (all_say k ps) f → part.now ≡ bytes_of E (f e)
      bytes_here memory part None q p a f h = absurd a
      bytes_here memory part (Some x) q p a f h = p.0 ∙ ap (bytes_of E) (sym (theory.right ps K g.tracks e x q f h))

      nothing_here : (memory part : Bor (List ℕ)) (o : Option (Symbol E)) → Shows L b (shown b e o) memory part → ¬ Accepted o → part.now ≡ []
      nothing_here memory part None p n = p
      nothing_here memory part (Some x) p n = absurd (n tt)

      placed : (a : Result ℕ Refusal) (o : Option (Symbol E)) → known K e ≡ o → Places L b (shown b e o) m a → Accepted o
          → (at : ℕ) × (said a ≡ value at) × ((f : Filling E) → All E (all_say k ps) f → part at E m ≡ bytes_of E (f e))
      placed a None q p x = absurd x
      placed a (Some y) q p x = (_, p.0, λ f h. p.1 ∙ ap (bytes_of E) (sym (theory.right ps K g.tracks e y q f h)))

      unplaced : (a : Result ℕ Refusal) (o : Option (Symbol E)) → Places L b (shown b e o) m a → ¬ Accepted o → said a ≡ refusal 12
      unplaced a None p n = p
      unplaced a (Some x) p n = absurd (n tt)

      heard_is : (a : Result Bool Refusal) → SymbolShown L m e a → (a ≡ Ok true) ↔ Heard ps e
      heard_is (Err x) p = (
        (λ z. absurd (true≢false (sym (ap said_heard z)))),
        (λ h. absurd (subst IsValue (sym ((zero_is (Err x) p).1 (told.1 (inr h)))) tt)),
      )
      heard_is (Ok x) p =
          let q = p.origin b K g.origins g.held g.hears x refl in (
            (λ z. (g.heard e l).0 (sym q ∙ ap said_heard z)),
            (λ h. ap Ok (q ∙ (g.heard e l).1 h)),
          )

      inside : SymbolJudged b L m ps n e
      inside = record {
        answers = λ a p. zero-or_twelve (known K e) (shown_of a) (finds (shown b e (known K e)) (here (known K e) refl) a p);
        shown = λ a p. ((λ z. (l, told.0 ((zero_is a p).0 z))), (λ h. (zero_is a p).1 (told.1 h.1)));
        known = λ a p. ((λ z. (l, exactly.0 ((zero_is a p).0 z))), (λ h. (zero_is a p).1 (exactly.1 h.1)));
        bytes = λ memory part z p i q f h.
            bytes_here memory part (known K e) refl (part-is (shown b e (known K e)) (here (known K e) refl) memory part z p) (exactly.1 q) f h;
        nothing = λ memory part z p h.
            nothing_here memory part (known K e) (part-is (shown b e (known K e)) (here (known K e) refl) memory part z p) (λ a. h (l, exactly.0 a));
        place = λ a p i q. placed a (known K e) refl (place_is (shown b e (known K e)) (here (known K e) refl) a p) (exactly.1 q);
        nowhere = λ a p h. unplaced a (known K e) (place_is (shown b e (known K e)) (here (known K e) refl) a p) (λ x. h (l, exactly.0 x));
        heard = λ a p. ((λ z. (l, (heard_is a p).0 z)), (λ h. (heard_is a p).1 h.1));
      }

    pub symbol_judged : SymbolJudged b L m ps n e
    symbol_judged = go (dec_lt e k)
      where
        go : Dec (e < k) → SymbolJudged b L m ps n e
        go (yes l) = inside l
        go (no l) = past (omega arith)

  -- ---- Every list

  pub opened_stands : (F j total number : ℕ) (m₀ m : List ℕ) (a : Result ℕ Refusal) → Opened L F j total number m₀ m a → said a ≡ value 0
      → block_of F j total number ≡ Ok b → Stands m []
  opened_stands F j total number m₀ m a p e h = record {
    system = opened b;
    held = p.holds b h e;
    tracks = theory.begins;
    origins = unheard;
    hears = p.origins b h e;
    heard = λ i l. ((λ z. absurd (true≢false (sym z))), (λ (x, y). absurd y));
  }

  pub recovers : (m : List ℕ) → Stands m [] → (ts : List Step) → Run L m ts → Recovers b L ts (final m ts)
  recovers m g ts r =
      let s = stands ts m [] g r in
      let c : Consistent E (all_say k (accepted b ts)) = theory.agrees (accepted b ts) s.system s.tracks in
      record {
        calls = λ before t after e. each before t after m [] g (subst (Run L m) e r);
        consistent = c;
        different = counts (accepted b ts);
        recovered = λ n h. ((recovery E k some_bytes few).recovered (accepted b ts) s.tracks.formed n h c).exactly;
        symbols = λ n h e. symbol_judged (final m ts) (accepted b ts) s n e h;
        meaning = recovery E k some_bytes few;
      }

-- An opening that answers 0 had a block.
pub had_block : (x : Result Block Refusal) (room : ℕ) → opening x room ≡ value 0 → (b : Block) × (x ≡ Ok b)
had_block (Err r) room e = absurd (subst IsRefusal e tt)
had_block (Ok b) room e = (b, refl)

pub every_list : (L : Layout) → EveryList L
every_list L E k total number m₀ m a p e ts r =
    let (b, h) = had_block (block_of E k total number) (length m₀) (sym p.answer ∙ e) in
    let v = (good_names E k total number b h).1 in
    (b, h, recovers L b v m (opened_stands L b v E k total number m₀ m a p e h) ts r)
