-- What a turn of the pass leaves open, and marks that are settled.
-- Index
--   open_agree: what is open is so by the marks up to the width alone
--   skipped: what a turn at i leaves open
--   noted: where it notes an end past the window
--   set_end: where it marks the end
--   reaches_agree, is-pass, settled_agree
--   pass_settled: the pass settles all but what is past the window, and with that noted, all
--   unseen_settled: where nothing is seen, all is
--   nothing_open
use Rattle.std.specs.Prelude.{◌≡◌, ◌≤◌, ◌+◌, ◌<◌, ◌≢◌, ◌&&◌, ◌⊎◌, ◌||◌}
use Rattle.words.specs.Words.{arith, ℕ, List, refl, ◌∙◌, sym, ap, Some, true, None, false, Bool, subst, cond, ltb, eqb, le-leb}
use Rattle.words.specs.Words.{ℕ_discrete, some-injective, none-ne-some, dec_lt, ne_eqb, inr, true≢false, inl, ltb-true, add_assoc}
use Rattle.starts.specs.Adu.{needs, View}
use Rattle.starts.specs.Starts.{Starts, also, owning, moved, pass}
use Rattle.starts.specs.Settled.{Open, Settled, Old, Reaches, seed, next}
use Rattle.starts.proofs.Tests.{also_true, moved_true}
use Rattle.starts.proofs.Agreeing.{Agree}
use Rattle.starts.proofs.Chaining.{pass_reaches}

module _ (E w : ℕ) (see : View) where
  -- What is open is so by the marks up to the width alone.
  pub open_agree : (f : ℕ) (M N : Starts) → Agree w M N → (k : ℕ) → Open E w see f M k → Open E w see f N k
  open_agree f M N a k o = record {
    bytes = o.bytes;
    inside = o.inside;
    mark = sym (a k (omega (arith, o.inside))) ∙ o.mark;
    sees = o.sees;
    fits = o.fits;
    unmarked = λ l. sym (a (k + needs E o.bytes) l) ∙ o.unmarked l;
    unnoted = o.unnoted;
  }

  -- What a turn at i leaves open: where it changes nothing, and i is not open.
  pub skipped : (f : ℕ) (M N : Starts) (i r : ℕ) → Agree w N M → ¬ Open E w see f M i → (k : ℕ) → Open E w see f N k
      → (k ≡ r) ⊎ (Open E w see f M k × (k ≢ i))
  skipped f M N i r a shut k o = inr (open_agree f N M a k o, λ e. shut (subst (Open E w see f M) e (open_agree f N M a k o)))

  -- Where it notes an end past the window.
  pub noted : (f : ℕ) (M N : Starts) (i r : ℕ) (v : List ℕ) → Agree w N M → see i ≡ Some v → w < i + needs E v → (k : ℕ) → Open E w see 1 N k
      → (k ≡ r) ⊎ (Open E w see f M k × (k ≢ i))
  noted f M N i r v a s l k o = inr (
    record {
      bytes = p.bytes;
      inside = p.inside;
      mark = p.mark;
      sees = p.sees;
      fits = p.fits;
      unmarked = p.unmarked;
      unnoted = λ g. absurd (omega (arith, p.unnoted g));
    },
    λ e. let q = subst (Open E w see 1 M) e p in
        let same = some-injective _ _ (sym q.sees ∙ s) in
        absurd (omega (arith, q.unnoted (subst (λ x. w < i + needs E x) (sym same) l))),
  )
    where
      p : Open E w see 1 M k
      p = open_agree 1 N M a k o

  -- Where it marks the end.
  pub set_end : (f : ℕ) (M : Starts) (i : ℕ) (v : List ℕ) → see i ≡ Some v → i + needs E v ≤ w → (k : ℕ) → Open E w see f (also (i + needs E v) M) k
      → (k ≡ i + needs E v) ⊎ (Open E w see f M k × (k ≢ i))
  set_end f M i v s l k o = go (ℕ_discrete k (i + needs E v))
    where
      -- What is not marked now was not before.
      before : (j : ℕ) → also (i + needs E v) M j ≡ false → M j ≡ false
      before j e = split (eqb j (i + needs E v)) e
        where
          split : (b : Bool) → b || M j ≡ false → M j ≡ false
          split true x = absurd (true≢false x)
          split false x = x

      shut : k ≡ i → ⊥
      shut e =
          let q = subst (Open E w see f (also (i + needs E v) M)) e o in
          let same = some-injective _ _ (sym q.sees ∙ s) in
          let at : i + needs E q.bytes ≡ i + needs E v = ap (λ x. i + needs E x) same in
          true≢false (sym ((also_true (i + needs E v) M (i + needs E q.bytes)).1 (inl at)) ∙ q.unmarked (omega (arith, at, l)))

      go : Dec (k ≡ i + needs E v) → (k ≡ i + needs E v) ⊎ (Open E w see f M k × (k ≢ i))
      go (yes e) = inl e
      go (no n) = inr (
        record {
          bytes = o.bytes;
          inside = o.inside;
          mark = ap (λ t. t || M k) (sym (ne_eqb k (i + needs E v) n)) ∙ o.mark;
          sees = o.sees;
          fits = o.fits;
          unmarked = λ h. before (k + needs E o.bytes) (o.unmarked h);
          unnoted = o.unnoted;
        },
        shut,
      )

  -- ---- what marks reach

  pub reaches_agree : (M N : Starts) → Agree w M N → {j : ℕ} → j ≤ w → Reaches E w see M j → Reaches E w see N j
  reaches_agree M N a l (seed {j} h) = seed (sym (a j l) ∙ h)
  reaches_agree M N a l (next c k h) = next (reaches_agree M N a (omega arith) c) k h

  -- Marks that keep those of M, are reached from them and are settled are those of the pass.
  module _ (some_bytes : 0 < E) (f : ℕ) (M N : Starts) (kept : (i : ℕ) → i ≤ w → M i ≡ true → N i ≡ true)
      (reached : (i : ℕ) → i ≤ w → N i ≡ true → Reaches E w see M i) (settled : Settled E w see f N) where
    reaches_marked : {j : ℕ} → Reaches E w see M j → j ≤ w → N j ≡ true
    reaches_marked (seed {j} h) l = kept j l h
    reaches_marked (next {i} {v} c k h) l = go (N (i + needs E v)) refl (reaches_marked c (omega arith))
      where
        go : (t : Bool) → N (i + needs E v) ≡ t → N i ≡ true → N (i + needs E v) ≡ true
        go true e m = e
        go false e m =
            absurd (settled i (record {
              bytes = v;
              inside = k;
              mark = m;
              sees = h;
              fits = omega arith;
              unmarked = λ _. e;
              unnoted = λ z. absurd (omega arith);
            }))

    same_bool : (a b : Bool) → (a ≡ true → b ≡ true) → (b ≡ true → a ≡ true) → a ≡ b
    same_bool true b g h = sym (g refl)
    same_bool false true g h = h refl
    same_bool false false g h = refl

    pub is-pass : Agree w N (pass E see w M)
    is-pass j l =
        let c = pass_reaches E see some_bytes w M j in
        same_bool (N j) (pass E see w M j)
        (λ h. c.1 (reached j l h)) (λ h. reaches_marked (c.0 h) l)

  -- ---- settled marks

  pub settled_agree : (f : ℕ) (M N : Starts) → Agree w M N → Settled E w see f M → Settled E w see f N
  settled_agree f M N a s k o = s k (open_agree f N M (λ i l. sym (a i l)) k o)

  -- The pass settles all but what is past the window, and with that noted, all.
  pub pass_settled : (f : ℕ) (M : Starts) → 0 < E → f ≢ 0 → Settled E w see f (pass E see w M)
  pass_settled f M pos is-noted k o = split (dec_lt w (k + needs E o.bytes))
    where
      here : pass E see w M (k + needs E o.bytes) ≡ true
      here =
          let c = (pass_reaches E see pos w M k).0 o.mark in
          (pass_reaches E see pos w M (k + needs E o.bytes)).1 (next c o.inside o.sees)

      split : Dec (w < k + needs E o.bytes) → ⊥
      split (yes l) = is-noted (o.unnoted l)
      split (no l) = true≢false (sym here ∙ o.unmarked (omega arith))

  -- Where nothing is seen, all is.
  pub unseen_settled : (f : ℕ) (M : Starts) → ((i : ℕ) → i < w → see i ≡ None) → Settled E w see f M
  unseen_settled f M h k o = none-ne-some _ (sym (h k o.inside) ∙ o.sees)

-- ---- after a packet

-- The marks that an accepted packet has of those before it: nothing is open but at its own positions and the one after its last.
module _ (E w rise first n f : ℕ) (before see : View) (M : Starts) (settled : Settled E w before f M) (old : Old w rise first n before see)
    (may : (rise ≡ 0) ⊎ (f ≡ 0)) where
  abbrev N : Starts
  N = owning first n (moved w rise M)

  -- Away from its own positions a mark is one that stays.
  stays : (k : ℕ) → ((0 < n) × (first ≤ k) × (k < first + (n + 1)) → ⊥) → N k ≡ true → moved w rise M k ≡ true
  stays k away h = go (ltb 0 n) refl h
    where
      go : (t : Bool) → ltb 0 n ≡ t → cond t (also first (also (first + n) (moved w rise M))) (moved w rise M) k ≡ true → moved w rise M k ≡ true
      go false e x = x
      go true e x = other ((also_true first (also (first + n) (moved w rise M)) k).0 x)
        where
          some_own : 0 < n
          some_own = ltb-true 0 n e

          last : (k ≡ first + n) ⊎ (moved w rise M k ≡ true) → moved w rise M k ≡ true
          last (inl y) = absurd (away (some_own, omega (arith, y), omega (arith, y)))
          last (inr y) = y

          other : (k ≡ first) ⊎ (also (first + n) (moved w rise M) k ≡ true) → moved w rise M k ≡ true
          other (inl y) = absurd (away (some_own, omega (arith, y), omega (arith, y)))
          other (inr y) = last ((also_true (first + n) (moved w rise M) k).0 y)

  -- What is not marked now was not before.
  gone : (j : ℕ) → N j ≡ false → moved w rise M j ≡ false
  gone j h = go (ltb 0 n) h
    where
      two : (a b c : Bool) → a || (b || c) ≡ false → c ≡ false
      two true b c x = absurd (true≢false x)
      two false true c x = absurd (true≢false x)
      two false false c x = x

      go : (t : Bool) → cond t (also first (also (first + n) (moved w rise M))) (moved w rise M) j ≡ false → moved w rise M j ≡ false
      go false x = x
      go true x = two (eqb j first) (eqb j (first + n)) (moved w rise M j) x

  not-before : (j : ℕ) → moved w rise M j ≡ false → rise + j ≤ w → M (rise + j) ≡ false
  not-before j h l = sym (ap (λ t. t && M (rise + j)) (le-leb (rise + j) w l)) ∙ h

  pub nothing_open : (k : ℕ) → ((0 < n) × (first ≤ k) × (k < first + (n + 1)) → ⊥) → ¬ Open E w see f N k
  nothing_open k away o =
      let (l, was) = (moved_true w rise M k).0 (stays k away o.mark) in
      let (inside, saw) = old k o.bytes o.inside (own (dec_lt k first) (dec_lt 0 n)) o.sees in
      settled (rise + k) (record {
        bytes = o.bytes;
        inside = inside;
        mark = was;
        sees = saw;
        fits = o.fits;
        unmarked = λ h.
            let e : rise + k + needs E o.bytes ≡ rise + (k + needs E o.bytes) = add_assoc rise k (needs E o.bytes) in
            ap M e ∙ not-before (k + needs E o.bytes) (gone (k + needs E o.bytes) (o.unmarked (omega arith))) (omega (arith, e));
        unnoted = λ h. note may h;
      })
    where
      own : Dec (k < first) → Dec (0 < n) → (k < first) ⊎ (first + n ≤ k)
      own (yes h) d = inl h
      own (no h) (yes d) = inr (far (dec_lt k (first + (n + 1))))
        where
          far : Dec (k < first + (n + 1)) → first + n ≤ k
          far (yes g) = absurd (away (d, omega arith, g))
          far (no g) = omega arith
      own (no h) (no d) = inr (omega arith)

      note : (rise ≡ 0) ⊎ (f ≡ 0) → w < rise + k + needs E o.bytes → f ≡ 0
      note (inl e) h = o.unnoted (omega (arith, e))
      note (inr e) h = e
