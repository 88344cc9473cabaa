-- Gaussian elimination, oldest position first: what each step of the model does to the fillings that satisfy it.
-- Index
--   eval_zero: a zero coefficient does not count
--   reduce_reduced, reduce_eval, reduced_scale, reduced_axpy, nonzero_cancel, lead_scale, place_sat
--   place_reduced: its column is clear in the older rows, and they stay clear of the other pivots
--   place_rref, Added, nonzero_null, insert_added, advance_rref
--   advance_sat: the fillings of the window that has moved on are those of the window before, without their first symbol
--   solution: a filling
--   solution_sat
--   known_sound: what is shown is what every filling has there
--   known_complete: what is not shown differs between two fillings
use Rattle.std.specs.Prelude.{◌≡◌, ◌≢◌, ◌↔◌}
use Rattle.words.specs.Words.{ℕ, refl, ◌∙◌, sym, ap, Some, suc, zero, None, subst, Option, ap₂, some-injective, none-ne-some}
use mathlib.Core.Logic.Iff
use Rattle.words.specs.Words.{some-ne-none}
use Rattle.decoder.specs.Field.{Ops, Laws}
use Rattle.decoder.specs.Model.{tail, ext, only_if, Filling, Row, State, end, free, pivot, Sat, Reduced, Rref, eval, axpy, scale, lead, at, symbol, push}
use Rattle.decoder.specs.Model.{reduce, place_free, place, settle_by, settle, insert, known, extend, advance}
use Rattle.decoder.proofs.Linear as lin

module _ {O : Ops} (L : Laws O) where
  open O use {K, Sym, 𝟘, 𝟙, ◌+◌, ◌*◌, inv, zero?, null, ◌⊕◌, ◌•◌, null?}
  open L use {⊕-comm, ⊕-null, *-•, 𝟙-•, 𝟘-•, +-self, *-comm, *-assoc, *-𝟘, *-𝟙, *-inv, 𝟙≢𝟘, unit, unit≢null}

  infixl 50 ◌+◌
  infixl 60 ◌*◌
  infixl 50 ◌⊕◌
  infixr 60 ◌•◌
  -- A zero coefficient does not count.
  pub eval_zero : (n : ℕ) (e : Row O (suc n)) (x : Filling O) → e.0 ≡ 𝟘 → eval O (suc n) e x ≡ eval O n e.1 (tail x)
  unfolding eval
  eval_zero n e x z = simp (eval, z, 𝟘-•, lin.null-⊕ O L)

  -- To add an equation that holds changes nothing.
  clear_eval : (n : ℕ) (k : K) (e t : Row O n) (x : Filling O) → eval O n e x ≡ null → eval O n (axpy O n k e t) x ≡ eval O n t x
  clear_eval n k e t x z = simp (lin.eval_axpy O L, z, lin.•-null O L, ⊕-null)

  -- Reduction.

  pub reduce_reduced : {n : ℕ} (S : State O n) (e : Row O n) → Reduced S (reduce S e)
  unfolding reduce
  reduce_reduced end e = tt
  reduce_reduced (free S) e = reduce_reduced S e.1
  reduce_reduced (pivot {n} r S) e = (refl, reduce_reduced S (axpy O n e.0 r e.1))

  pub reduce_eval : {n : ℕ} (S : State O n) (e : Row O n) (x : Filling O) → Sat S x → eval O n (reduce S e) x ≡ eval O n e x
  unfolding reduce eval
  reduce_eval end e x h = refl
  reduce_eval (free {n} S) e x h = ap (λ v. e.0 • x 0 ⊕ v) (reduce_eval S e.1 (tail x) h)
  reduce_eval (pivot {n} r S) e x h =
      eval_zero n (𝟘, reduce S (axpy O n e.0 r e.1)) x refl
      ∙ reduce_eval S (axpy O n e.0 r e.1) (tail x) h.1
      ∙ lin.eval_axpy O L n e.0 r e.1 (tail x)
      ∙ ⊕-comm _ _
      ∙ ap (λ v. e.0 • v ⊕ eval O n e.1 (tail x)) (sym h.0)

  pub reduced_scale : {n : ℕ} (S : State O n) (k : K) (e : Row O n) → Reduced S e → Reduced S (scale O n k e)
  unfolding scale
  reduced_scale end k e h = tt
  reduced_scale (free S) k e h = reduced_scale S k e.1 h
  reduced_scale (pivot r S) k e h = (rw h.0 (*-𝟘 k), reduced_scale S k e.1 h.1)

  clear_zero : (k a b : K) → a ≡ 𝟘 → b ≡ 𝟘 → a + k * b ≡ 𝟘
  clear_zero k a b p q = simp (p, q, *-𝟘, +-self)

  pub reduced_axpy : {n : ℕ} (S : State O n) (k : K) (r e : Row O n) → Reduced S r → Reduced S e → Reduced S (axpy O n k r e)
  unfolding axpy
  reduced_axpy end k r e g h = tt
  reduced_axpy (free S) k r e g h = reduced_axpy S k r.1 e.1 g h
  reduced_axpy (pivot _ S) k r e g h = (clear_zero k e.0 r.0 h.0 g.0, reduced_axpy S k r.1 e.1 g.1 h.1)

  -- Scaling by the inverse of the leading coefficient makes it one.

  pub nonzero_cancel : (a b : K) → a ≢ 𝟘 → inv a * b ≡ 𝟘 → b ≡ 𝟘
  nonzero_cancel a b h z =
      sym (*-𝟙 b) ∙ ap (λ c. b * c) (sym (*-inv a h)) ∙ sym (*-assoc b (inv a) a)
      ∙ ap (λ c. c * a) (*-comm b (inv a) ∙ z) ∙ *-comm 𝟘 a ∙ *-𝟘 a

  pub lead_scale : (n : ℕ) (k : K) → ((b : K) → k * b ≡ 𝟘 → b ≡ 𝟘) → (e : Row O n) → lead O n (scale O n k e) ≡ k * lead O n e
  unfolding lead scale
  lead_scale zero k c e = sym (*-𝟘 k)
  lead_scale (suc n) k c e = go (zero? e.0) (lead_scale n k c e.1)
    where
      go : Dec (e.0 ≡ 𝟘) → lead O n (scale O n k e.1) ≡ k * lead O n e.1 → lead O (suc n) (scale O (suc n) k e) ≡ k * lead O (suc n) e
      go (yes z) ih =
          lin.lead_later O L n (scale O (suc n) k e) (ap (λ a. k * a) z ∙ *-𝟘 k) ∙ ih ∙ ap (λ a. k * a) (sym (lin.lead_later O L n e z))
      go (no z) ih = lin.lead_here O L n (scale O (suc n) k e) (λ y. z (c e.0 y)) ∙ ap (λ a. k * a) (sym (lin.lead_here O L n e z))

  -- A reduced equation that leads with one, stored as a row.

  pub place_sat : {n : ℕ} (S : State O n) (e : Row O n) → Reduced S e → lead O n e ≡ 𝟙 → (x : Filling O)
      → Sat (place S e) x ↔ (Sat S x × (eval O n e x ≡ null))
  unfolding place place_free lead eval
  place_sat end e r l x = absurd (𝟙≢𝟘 (sym l))
  place_sat (free {n} S) e r l x = go (zero? e.0) (λ h. place_sat S e.1 r h (tail x))
    where
      go : (d : Dec (e.0 ≡ 𝟘))
          → (lead O n e.1 ≡ 𝟙 → Sat (place S e.1) (tail x) ↔ (Sat S (tail x) × (eval O n e.1 (tail x) ≡ null)))
          → Sat (place_free d (place S e.1) e.1 S) x ↔ (Sat S (tail x) × (e.0 • x 0 ⊕ eval O n e.1 (tail x) ≡ null))
      go (yes z) ih = simp (z, 𝟘-•, lin.null-⊕ O L) (ih (sym (lin.lead_later O L n e z) ∙ l))
      go (no z) ih = simp (sym (lin.lead_here O L n e z) ∙ l, 𝟙-•, lin.null_iff O L) ((λ s. (s.1, s.0)), (λ s. (s.1, s.0)))
  place_sat (pivot {n} t S) e r l x =
      let ih = place_sat S e.1 r.1 (sym (lin.lead_later O L n e r.0) ∙ l) (tail x) in
      let clear = clear_eval n (at O n e.1 t) e.1 t (tail x) in
      let drop = eval_zero n e x r.0 in (
        (λ s. let q = ih.0 s.1 in ((s.0 ∙ clear q.1, q.0), drop ∙ q.1)),
        (λ s. let q = sym drop ∙ s.1 in (s.0.0 ∙ sym (clear q), ih.1 (s.0.1, q))),
      )

  -- Its column is clear in the older rows, and they stay clear of the other pivots.
  pub place_reduced : {n : ℕ} (S : State O n) (e r : Row O n) → Reduced S e → lead O n e ≡ 𝟙 → Reduced S r
      → Reduced (place S e) (axpy O n (at O n e r) e r)
  unfolding place place_free lead at axpy
  place_reduced end e r h l g = tt
  place_reduced (free {n} S) e r h l g = go (zero? e.0) (λ l'. place_reduced S e.1 r.1 h l' g)
    where
      go : (d : Dec (e.0 ≡ 𝟘))
          → (lead O n e.1 ≡ 𝟙 → Reduced (place S e.1) (axpy O n (at O n e.1 r.1) e.1 r.1))
          → Reduced (place_free d (place S e.1) e.1 S) (axpy O (suc n) (at O (suc n) e r) e r)
      go (yes z) ih =
          subst (λ k. Reduced (place S e.1) (axpy O n k e.1 r.1)) (sym (lin.at_later O L n e r z)) (ih (sym (lin.lead_later O L n e z) ∙ l))
      go (no z) ih = (
        ap₂ (λ k a. r.0 + k * a) (lin.at_here O L n e r z) (sym (lin.lead_here O L n e z) ∙ l) ∙ simp (*-𝟙, +-self),
        reduced_axpy S (at O (suc n) e r) e.1 r.1 h g,
      )
  place_reduced (pivot {n} t S) e r h l g =
      let ih = place_reduced S e.1 r.1 h.1 (sym (lin.lead_later O L n e h.0) ∙ l) g.1 in (
        clear_zero (at O (suc n) e r) r.0 e.0 g.0 h.0,
        subst (λ k. Reduced (place S e.1) (axpy O n k e.1 r.1)) (sym (lin.at_later O L n e r h.0)) ih,
      )

  pub place_rref : {n : ℕ} (S : State O n) (e : Row O n) → Reduced S e → lead O n e ≡ 𝟙 → Rref S → Rref (place S e)
  unfolding place place_free lead
  place_rref end e h l f = tt
  place_rref (free {n} S) e h l f = go (zero? e.0) (λ l'. place_rref S e.1 h l' f)
    where
      go : (d : Dec (e.0 ≡ 𝟘)) → (lead O n e.1 ≡ 𝟙 → Rref (place S e.1)) → Rref (place_free d (place S e.1) e.1 S)
      go (yes z) ih = ih (sym (lin.lead_later O L n e z) ∙ l)
      go (no _) ih = (h, f)
  place_rref (pivot {n} t S) e h l f =
      let l' = sym (lin.lead_later O L n e h.0) ∙ l in
      (place_reduced S e.1 t h.1 l' f.0, place_rref S e.1 h.1 l' f.1)

  -- Adding an equation. It is refused where no filling of the system satisfies it; else the system gains just that.

  abbrev pub Added : {n : ℕ} → State O n → Row O n → Option (State O n) → Type 0
  Added {n} S e None = (x : Filling O) → Sat S x → eval O n e x ≢ null
  Added {n} S e (Some S') = Rref S' × ((x : Filling O) → Sat S' x ↔ (Sat S x × (eval O n e x ≡ null)))

  pub nonzero_null : (k : K) (v : Sym) → k ≢ 𝟘 → k • v ≡ null → v ≡ null
  nonzero_null k v h z =
      sym (𝟙-• v) ∙ ap (λ a. a • v) (sym (*-inv k h)) ∙ *-• (inv k) k v ∙ ap (λ u. inv k • u) z ∙ lin.•-null O L (inv k)

  scale_null : (k : K) (v : Sym) → k ≢ 𝟘 → (inv k • v ≡ null) ↔ (v ≡ null)
  scale_null k v h = (
    (λ z. sym (𝟙-• v) ∙ ap (λ a. a • v) (sym (*-inv k h) ∙ *-comm (inv k) k) ∙ *-• k (inv k) v ∙ ap (λ u. k • u) z ∙ lin.•-null O L k),
    (λ z. ap (λ u. inv k • u) z ∙ lin.•-null O L (inv k)),
  )

  settle_added : {n : ℕ} (S : State O n) (e : Row O n) → Rref S → Reduced S e → Added S e (settle S e)
  unfolding settle settle_by
  settle_added {n} S e f h = go (zero? (lead O n e)) (null? (symbol O n e))
    where
      k : K
      k = inv (lead O n e)

      go : (d : Dec (lead O n e ≡ 𝟘)) (d' : Dec (symbol O n e ≡ null)) → Added S e (settle_by d d' S e)
      go (yes z) (yes y) = (f, λ x. ((λ s. (s, lin.eval_lead O L n e x z ∙ y)), (λ s. s.0)))
      go (yes z) (no y) = λ x s q. y (sym (lin.eval_lead O L n e x z) ∙ q)
      go (no z) _ =
          let g = reduced_scale S k e h in
          let l = lead_scale n k (λ b. nonzero_cancel (lead O n e) b z) e ∙ *-inv (lead O n e) z in (
            place_rref S (scale O n k e) g l f,
            λ x.
                Iff.trans (place_sat S (scale O n k e) g l x)
                (Iff.and Iff.rfl (rw (lin.eval_scale O L n k e x) (scale_null (lead O n e) (eval O n e x) z))),
          )

  pub insert_added : {n : ℕ} (S : State O n) (e : Row O n) → Rref S → Added S e (insert S e)
  unfolding insert
  insert_added {n} S e f = go (settle S (reduce S e)) (settle_added S (reduce S e) f (reduce_reduced S e))
    where
      go : (o : Option (State O n)) → Added S (reduce S e) o → Added S e o
      go None h = λ x s q. h x s (reduce_eval S e x s ∙ q)
      go (Some S') h = (
        h.0,
        λ x. (
          (λ s. let t = (h.1 x).0 s in (t.0, sym (reduce_eval S e x t.0) ∙ t.1)),
          (λ t. (h.1 x).1 (t.0, reduce_eval S e x t.0 ∙ t.1)),
        ),
      )

  -- The window moves on.

  extend_sat : {n : ℕ} (S : State O n) (x : Filling O) → Sat (extend S) x ↔ Sat S x
  unfolding extend
  extend_sat end x = ((λ s. s), (λ s. s))
  extend_sat (free S) x = extend_sat S (tail x)
  extend_sat (pivot {n} r S) x = simp (lin.eval_push O L, extend_sat S (tail x)) Iff.rfl

  push_reduced : {n : ℕ} (S : State O n) (e : Row O n) → Reduced S e → Reduced (extend S) (push O n e)
  unfolding extend push
  push_reduced end e h = tt
  push_reduced (free S) e h = push_reduced S e.1 h
  push_reduced (pivot r S) e h = (h.0, push_reduced S e.1 h.1)

  extend_rref : {n : ℕ} (S : State O n) → Rref S → Rref (extend S)
  unfolding extend
  extend_rref end f = tt
  extend_rref (free S) f = extend_rref S f
  extend_rref (pivot r S) f = (push_reduced S r f.0, extend_rref S f.1)

  pub advance_rref : {n : ℕ} (S : State O n) → Rref S → Rref (advance S)
  unfolding advance
  advance_rref end f = tt
  advance_rref (free S) f = extend_rref S f
  advance_rref (pivot r S) f = extend_rref S f.1

  -- The fillings of the window that has moved on are those of the window before, without their first symbol.
  pub advance_sat : {n : ℕ} (S : State O n) (y : Filling O) → Sat (advance S) y ↔ ((x : Filling O) × Sat S x × (tail x ≡ y))
  unfolding advance
  advance_sat end y = ((λ _. (ext null y, tt, refl)), (λ _. tt))
  advance_sat (free S) y =
      ((λ s. (ext null y, (extend_sat S y).0 s, refl)), (λ t. subst (λ z. Sat (extend S) z) t.2 ((extend_sat S (tail t.0)).1 t.1)))
  advance_sat (pivot {n} r S) y = (
    (λ s. (ext (eval O n r y) y, (refl, (extend_sat S y).0 s), refl)),
    (λ t. subst (λ z. Sat (extend S) z) t.2 ((extend_sat S (tail t.0)).1 t.1.1)),
  )

  -- A filling: every free position null.
  pub solution : {n : ℕ} → State O n → Filling O
  solution end = λ i. null
  solution (free S) = ext null (solution S)
  solution (pivot {n} r S) = ext (eval O n r (solution S)) (solution S)

  pub solution_sat : {n : ℕ} (S : State O n) → Sat S (solution S)
  unfolding solution
  solution_sat end = tt
  solution_sat (free S) = solution_sat S
  solution_sat (pivot r S) = (refl, solution_sat S)

  -- What is known.

  -- A reduced form that is not constant takes two values.
  separate : {n : ℕ} (S : State O n) (e : Row O n) → Reduced S e → lead O n e ≢ 𝟘
      → (x y : Filling O) × Sat S x × Sat S y × (eval O n e x ≢ eval O n e y)
  unfolding lead eval
  separate end e h l = absurd (l refl)
  separate (free {n} S) e h l = go (zero? e.0) (separate S e.1 h)
    where
      go : Dec (e.0 ≡ 𝟘)
          → (lead O n e.1 ≢ 𝟘 → (x y : Filling O) × Sat S x × Sat S y × (eval O n e.1 x ≢ eval O n e.1 y))
          → (x y : Filling O) × Sat S (tail x) × Sat S (tail y) × (e.0 • x 0 ⊕ eval O n e.1 (tail x) ≢ e.0 • y 0 ⊕ eval O n e.1 (tail y))
      go (yes z) ih = let (x, y, s, t, q) = ih (λ y. l (lin.lead_later O L n e z ∙ y)) in
          (ext null x, ext null y, s, t, λ p. q (lin.⊕-cancel O L _ _ _ p))
      go (no z) ih =
          let s = solution_sat S in (
            ext unit (solution S),
            ext null (solution S),
            s,
            s,
            λ p. unit≢null (nonzero_null e.0 unit z (lin.⊕-cancel-right O L _ _ _ p ∙ lin.•-null O L e.0)),
          )
  separate (pivot {n} r S) e h l =
      let (x, y, s, t, q) = separate S e.1 h.1 (λ z. l (lin.lead_later O L n e h.0 ∙ z)) in
      let u = ext (eval O n r x) x in
      let v = ext (eval O n r y) y in
      (u, v, (refl, s), (refl, t), λ p. q (sym (eval_zero n e u h.0) ∙ p ∙ eval_zero n e v h.0))

  -- What is shown is what every filling has there.
  pub known_sound : {n : ℕ} (S : State O n) (i : ℕ) (v : Sym) → known S i ≡ Some v → (x : Filling O) → Sat S x → x i ≡ v
  unfolding known
  known_sound end i v k x s = absurd (none-ne-some v k)
  known_sound (free S) zero v k x s = absurd (none-ne-some v k)
  known_sound (free S) (suc i) v k x s = known_sound S i v k (tail x) s
  known_sound (pivot {n} r S) zero v k x s = go (zero? (lead O n r)) k
    where
      go : (d : Dec (lead O n r ≡ 𝟘)) → only_if d (symbol O n r) ≡ Some v → x 0 ≡ v
      go (yes z) k = s.0 ∙ lin.eval_lead O L n r (tail x) z ∙ some-injective _ _ k
      go (no _) k = absurd (none-ne-some v k)
  known_sound (pivot r S) (suc i) v k x s = known_sound S i v k (tail x) s.1

  -- What is not shown differs between two fillings.
  pub known_complete : {n : ℕ} (S : State O n) (i : ℕ) → Rref S → known S i ≡ None
      → (x y : Filling O) × Sat S x × Sat S y × (x i ≢ y i)
  unfolding known
  known_complete end i f k = ((λ _. unit), (λ _. null), tt, tt, unit≢null)
  known_complete (free S) zero f k = (ext unit (solution S), ext null (solution S), solution_sat S, solution_sat S, unit≢null)
  known_complete (free S) (suc i) f k =
      let (x, y, s, t, q) = known_complete S i f k in (ext null x, ext null y, s, t, q)
  known_complete (pivot {n} r S) zero f k = go (zero? (lead O n r)) k
    where
      go : (d : Dec (lead O n r ≡ 𝟘)) → only_if d (symbol O n r) ≡ None
          → (x y : Filling O) × Sat (pivot r S) x × Sat (pivot r S) y × (x 0 ≢ y 0)
      go (yes _) k = absurd (some-ne-none _ k)
      go (no z) k =
          let (x, y, s, t, q) = separate S r f.0 z in
          (ext (eval O n r x) x, ext (eval O n r y) y, (refl, s), (refl, t), q)
  known_complete (pivot {n} r S) (suc i) f k =
      let (x, y, s, t, q) = known_complete S i f.1 k in
      (ext (eval O n r x) x, ext (eval O n r y) y, (refl, s), (refl, t), q)
