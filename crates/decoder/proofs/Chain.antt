-- Reducing and placing one row after the other: what it does to an equation, to the reduced form and to the packet's equations.
-- Index
--   reduce_fixed: a reduced row is its own reduction
--   reduce_place: to reduce by a system with one more row is to reduce by the system, and then to eliminate the row
--   reduced_implied, reduced_contradicts
--   normal: the reduction scaled so that it leads with one
--   normal_reduced, normal_leads, reduced_places, chain_none, chain_before, chain_more
--   chain_rref: a chain keeps the reduced form
--   chain_reduce: to reduce by the system
--   eliminate_same: only the first `k` rows count
--   place_rows_same, chain_same, packet_implied, packet_contradicts, packet_places
use Rattle.std.specs.Prelude.{◌≡◌, ◌<◌, ◌∷◌, ◌++◌, ◌≢◌}
use Rattle.words.specs.Words.{arith, ℕ, List, refl, ◌∙◌, sym, ap, [], Some, suc, zero, None, subst, Option, ap₂, dec_lt}
use Rattle.decoder.specs.Field.{Ops, Laws}
use Rattle.decoder.specs.Model.{Row, State, Reduced, Rref, eval, axpy, scale, lead, at, symbol, reduce, place, settle_by, settle, insert}
use Rattle.decoder.specs.Receiver.{and_then, insert_all}
use Rattle.decoder.specs.Chain.{Chain, place_rows, eliminate}
use Rattle.decoder.proofs.Jump.{insert_all_append}
use Rattle.decoder.proofs.Linear as lin
use Rattle.decoder.proofs.Elimination as elimination
use Rattle.decoder.proofs.Canonical as canonical

module _ {O : Ops} (L : Laws O) where
  open O use {K, 𝟘, 𝟙, ◌*◌, inv, zero?, null, ◌⊕◌, ◌•◌, null?}
  open L use {*-comm, *-𝟙, *-inv, 𝟙≢𝟘, ⊕-null, 𝟙-•}

  infixl 60 ◌*◌
  infixl 50 ◌⊕◌
  infixr 60 ◌•◌
  -- A reduced row is its own reduction.
  pub reduce_fixed : {n : ℕ} (T : State O n) (e : Row O n) → Reduced T e → reduce T e ≡ e
  reduce_fixed T e r =
      canonical.alike L T (reduce T e) e (elimination.reduce_reduced L T e) r (λ x s. elimination.reduce_eval L T e x s)

  -- To reduce by a system with one more row is to reduce by the system, and then to eliminate the row.
  pub reduce_place : {n : ℕ} (T : State O n) (g e : Row O n) → Reduced T g → lead O n g ≡ 𝟙
      → reduce (place T g) e ≡ axpy O n (at O n g (reduce T e)) g (reduce T e)
  reduce_place {n} T g e r l =
      let d = reduce T e in
      canonical.alike L (place T g) (reduce (place T g) e) (axpy O n (at O n g d) g d)
      (elimination.reduce_reduced L (place T g) e)
      (elimination.place_reduced L T g d r l (elimination.reduce_reduced L T e))
      (λ x s.
      let (t, z) = (elimination.place_sat L T g r l x).0 s in
      elimination.reduce_eval L (place T g) e x s
      ∙ sym (elimination.reduce_eval L T e x t)
      ∙ sym (⊕-null (eval O n d x))
      ∙ ap (λ v. eval O n d x ⊕ v) (sym (lin.•-null O L (at O n g d)) ∙ ap (λ v. at O n g d • v) (sym z))
      ∙ sym (lin.eval_axpy O L n (at O n g d) g d x))

  scale_one : (n : ℕ) (k : K) (e : Row O n) → k ≡ 𝟙 → scale O n k e ≡ e
  unfolding scale
  scale_one zero k e p = ap (λ a. a • e) p ∙ 𝟙-• e
  scale_one (suc n) k e p = ap₂ (λ a r. (a, r)) (ap (λ a. a * e.0) p ∙ *-comm 𝟙 e.0 ∙ *-𝟙 e.0) (scale_one n k e.1 p)

  -- What becomes of an equation, told by its reduction: implied, a contradiction, or a new row.
  module _ {n : ℕ} (T : State O n) (e : Row O n) where
    pub reduced_implied : lead O n (reduce T e) ≡ 𝟘 → symbol O n (reduce T e) ≡ null → insert T e ≡ Some T
    unfolding insert settle settle_by
    reduced_implied z y = go (zero? (lead O n (reduce T e))) (null? (symbol O n (reduce T e)))
      where
        go : (d : Dec (lead O n (reduce T e) ≡ 𝟘)) (d' : Dec (symbol O n (reduce T e) ≡ null)) → settle_by d d' T (reduce T e) ≡ Some T
        go (yes _) (yes _) = refl
        go (yes _) (no q) = absurd (q y)
        go (no p) _ = absurd (p z)

    pub reduced_contradicts : lead O n (reduce T e) ≡ 𝟘 → symbol O n (reduce T e) ≢ null → insert T e ≡ None
    unfolding insert settle settle_by
    reduced_contradicts z y = go (zero? (lead O n (reduce T e))) (null? (symbol O n (reduce T e)))
      where
        go : (d : Dec (lead O n (reduce T e) ≡ 𝟘)) (d' : Dec (symbol O n (reduce T e) ≡ null)) → settle_by d d' T (reduce T e) ≡ None
        go (yes _) (yes q) = absurd (y q)
        go (yes _) (no _) = refl
        go (no p) _ = absurd (p z)

    -- The reduction scaled so that it leads with one.
    unfoldable pub normal : Row O n
    normal = scale O n (inv (lead O n (reduce T e))) (reduce T e)

    pub normal_reduced : Reduced T normal
    unfolding normal
    normal_reduced = elimination.reduced_scale L T _ (reduce T e) (elimination.reduce_reduced L T e)

    module _ (z : lead O n (reduce T e) ≢ 𝟘) where
      pub normal_leads : lead O n normal ≡ 𝟙
      unfolding normal
      normal_leads =
          let a = lead O n (reduce T e) in
          elimination.lead_scale L n (inv a) (λ b. elimination.nonzero_cancel L a b z) (reduce T e) ∙ *-inv a z

      pub reduced_places : insert T e ≡ Some (place T normal)
      unfolding insert settle settle_by normal
      reduced_places = go (zero? (lead O n (reduce T e)))
        where
          go : (d : Dec (lead O n (reduce T e) ≡ 𝟘)) → settle_by d (null? (symbol O n (reduce T e))) T (reduce T e) ≡ Some (place T normal)
          go (yes p) = absurd (z p)
          go (no _) = refl

  -- Chains.
  module _ {n : ℕ} (S : State O n) (g : ℕ → Row O n) where
    pub chain_none : Chain S g 0
    chain_none = record { reduced = λ j l. absurd (omega arith); leads = λ j l. absurd (omega arith) }

    pub chain_before : (k : ℕ) → Chain S g (suc k) → Chain S g k
    chain_before k c = record { reduced = λ j l. c.reduced j (omega arith); leads = λ j l. c.leads j (omega arith) }

    pub chain_more : (k : ℕ) → Chain S g k → Reduced (place_rows g k S) (g k) → lead O n (g k) ≡ 𝟙 → Chain S g (suc k)
    chain_more k c r l = record {
      reduced = λ j m. go (dec_lt j k) m (c.reduced j);
      leads = λ j m. led (dec_lt j k) m (c.leads j);
    }
      where
        go : {j : ℕ} → Dec (j < k) → j < suc k → (j < k → Reduced (place_rows g j S) (g j)) → Reduced (place_rows g j S) (g j)
        go (yes y) m h = h y
        go {j} (no y) m h = let e : k ≡ j = omega arith in subst (λ i. Reduced (place_rows g i S) (g i)) e r

        led : {j : ℕ} → Dec (j < k) → j < suc k → (j < k → lead O n (g j) ≡ 𝟙) → lead O n (g j) ≡ 𝟙
        led (yes y) m h = h y
        led {j} (no y) m h = let e : k ≡ j = omega arith in subst (λ i. lead O n (g i) ≡ 𝟙) e l

    -- A chain keeps the reduced form.
    pub chain_rref : (k : ℕ) → Rref S → Chain S g k → Rref (place_rows g k S)
    unfolding place_rows
    chain_rref zero f c = f
    chain_rref (suc k) f c =
        elimination.place_rref L (place_rows g k S) (g k) (c.reduced k (omega arith)) (c.leads k (omega arith))
        (chain_rref k f (chain_before k c))

    -- To reduce by the system, and then to eliminate the rows one after the other, is to reduce by the system with the rows placed.
    pub chain_reduce : (k : ℕ) (e : Row O n) → Chain S g k → eliminate O n g k (reduce S e) ≡ reduce (place_rows g k S) e
    unfolding place_rows eliminate
    chain_reduce zero e c = refl
    chain_reduce (suc k) e c =
        ap (λ d. axpy O n (at O n (g k) d) (g k) d) (chain_reduce k e (chain_before k c))
        ∙ sym (reduce_place (place_rows g k S) (g k) e (c.reduced k (omega arith)) (c.leads k (omega arith)))

  -- Only the first `k` rows count.
  pub eliminate_same : (n : ℕ) (g h : ℕ → Row O n) (k : ℕ) (e : Row O n) → ((j : ℕ) → j < k → g j ≡ h j) → eliminate O n g k e ≡ eliminate O n h k e
  unfolding eliminate
  eliminate_same n g h zero e p = refl
  eliminate_same n g h (suc k) e p =
      ap₂ (λ r d. axpy O n (at O n r d) r d) (p k (omega arith)) (eliminate_same n g h k e (λ j l. p j (omega arith)))

  module _ {n : ℕ} (g h : ℕ → Row O n) where
    pub place_rows_same : (k : ℕ) (S : State O n) → ((j : ℕ) → j < k → g j ≡ h j) → place_rows g k S ≡ place_rows h k S
    unfolding place_rows
    place_rows_same zero S p = refl
    place_rows_same (suc k) S p = ap₂ place (place_rows_same k S (λ j l. p j (omega arith))) (p k (omega arith))

    pub chain_same : (k : ℕ) (S : State O n) → ((j : ℕ) → j < k → g j ≡ h j) → Chain S g k → Chain S h k
    chain_same k S p c = record {
      reduced = λ j l.
          subst (λ r. Reduced (place_rows h j S) r) (p j l)
          (subst (λ T. Reduced T (g j)) (place_rows_same j S (λ i m. p i (omega arith))) (c.reduced j l));
      leads = λ j l. subst (λ r. lead O n r ≡ 𝟙) (p j l) (c.leads j l);
    }

  -- One more equation of a packet: the equations `es` have become the first `k` rows of `g`.
  module _ {n : ℕ} (S : State O n) (g : ℕ → Row O n) (k : ℕ) (es : List (Row O n)) (c : Chain S g k)
      (before : insert_all es S ≡ Some (place_rows g k S)) (e : Row O n) where
    next : (o : Option (State O n)) → insert (place_rows g k S) e ≡ o → insert_all (es ++ (e ∷ [])) S ≡ o
    unfolding insert_all
    next o i =
        insert_all_append es (e ∷ []) S ∙ ap (λ a. and_then a (λ T. insert_all (e ∷ []) T)) before ∙ ap (λ a. and_then a Some) i ∙ go o
      where
        go : (o : Option (State O n)) → and_then o Some ≡ o
        go None = refl
        go (Some T) = refl

    pub packet_implied : lead O n (reduce (place_rows g k S) e) ≡ 𝟘 → symbol O n (reduce (place_rows g k S) e) ≡ null
        → insert_all (es ++ (e ∷ [])) S ≡ Some (place_rows g k S)
    packet_implied z y = next _ (reduced_implied (place_rows g k S) e z y)

    pub packet_contradicts : lead O n (reduce (place_rows g k S) e) ≡ 𝟘 → symbol O n (reduce (place_rows g k S) e) ≢ null
        → insert_all (es ++ (e ∷ [])) S ≡ None
    packet_contradicts z y = next None (reduced_contradicts (place_rows g k S) e z y)

    pub packet_places : lead O n (reduce (place_rows g k S) e) ≢ 𝟘 → g k ≡ normal (place_rows g k S) e
        → Chain S g (suc k) × (insert_all (es ++ (e ∷ [])) S ≡ Some (place_rows g (suc k) S))
    unfolding place_rows
    packet_places z q =
        let T = place_rows g k S in (
          chain_more S g k c (subst (Reduced T) (sym q) (normal_reduced T e)) (ap (lead O n) q ∙ normal_leads T e z),
          next _ (reduced_places T e z ∙ ap (λ r. Some (place T r)) (sym q)),
        )
