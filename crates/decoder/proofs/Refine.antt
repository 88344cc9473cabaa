-- The loops over the table do what the model says: reduce, find the leading coefficient, place, and move on.
-- Index
--   read-add, read_scale, add-zero
--   sweep_before: a sweep over later positions leaves an earlier cell
--   sweep_reduce, lead_read, lead_none, at_read
--   add_line-zero: to add nothing changes nothing, so such rows may be passed over
--   view_place, view_advance
use Rattle.std.specs.Prelude.{◌≡◌, ◌≤◌, ◌<◌, ◌≢◌, ◌+◌ as ◌+ₙ◌}
use Rattle.words.specs.Words.{arith, ℕ, refl, ◌∙◌, sym, ap, suc, true, zero, false, Bool, subst, ap₂, ℕ_discrete, true≢false}
use Rattle.decoder.specs.Field.{Ops, Laws}
use Rattle.decoder.specs.Model.{Row, State, end, free, pivot, axpy, scale, lead, at, push, reduce, place, place_free, extend, advance}
use Rattle.decoder.specs.Table.{Line, Table, read, slot, view, Echelon}
use Rattle.decoder.specs.TableSteps.{add_line, scale_line, step_by, sweep, Leads, Places, Moves}
use Rattle.decoder.proofs.Linear as lin

module _ {O : Ops} (L : Laws O) where
  open O use {K, 𝟘, 𝟙, ◌+◌, ◌*◌, zero?, ◌⊕◌, ◌•◌}
  open L use {+-𝟘, +-self, *-comm, *-𝟘, *-𝟙, 𝟘-•, ⊕-null}

  infixl 50 ◌+◌
  infixl 60 ◌*◌
  infixl 50 ◌⊕◌
  infixr 60 ◌•◌
  pub read-add : (k : K) (r e : Line O) (n q : ℕ) → read (add_line k r e) n q ≡ axpy O n k (read r n q) (read e n q)
  unfolding read add_line axpy
  read-add k r e zero q = refl
  read-add k r e (suc n) q = ap (λ t. (e.cells q + k * r.cells q, t)) (read-add k r e n (suc q))

  pub read_scale : (k : K) (e : Line O) (n q : ℕ) → read (scale_line k e) n q ≡ scale O n k (read e n q)
  unfolding read scale_line scale
  read_scale k e zero q = refl
  read_scale k e (suc n) q = ap (λ t. (k * e.cells q, t)) (read_scale k e n (suc q))

  pub add-zero : (a k b : K) → b ≡ 𝟘 → a + k * b ≡ a
  add-zero a k b z = simp (z, *-𝟘, +-𝟘)

  -- A sweep over later positions leaves an earlier cell.
  pub sweep_before : (T : Table O) (b w : ℕ) → Echelon T b w → (n q : ℕ) (e : Line O) (j : ℕ) → b ≤ j → j < q → q +ₙ n ≤ b +ₙ w
      → (sweep T n q e).cells j ≡ e.cells j
  unfolding sweep step_by add_line
  sweep_before T b w h zero q e j g l f = refl
  sweep_before T b w h (suc n) q e j g l f =
      sweep_before T b w h n (suc q) (step_by (T.has q) (e.cells q) (T.line q) e) j g (omega arith) (omega arith)
      ∙ go (T.has q) (λ t. h.zero-before q (omega arith) (omega arith) t j g l)
    where
      go : (t : Bool) → (t ≡ true → (T.line q).cells j ≡ 𝟘) → (step_by t (e.cells q) (T.line q) e).cells j ≡ e.cells j
      go true z = add-zero (e.cells j) (e.cells q) ((T.line q).cells j) (z refl)
      go false z = refl

  -- The sweep reduces.
  sweep_from : (T : Table O) (b w : ℕ) → Echelon T b w → (n q : ℕ) (e : Line O) → b ≤ q → q +ₙ n ≤ b +ₙ w
      → read (sweep T n q e) n q ≡ reduce (view T n q) (read e n q)
  unfolding sweep step_by add_line read view slot reduce
  sweep_from T b w h zero q e g f = refl
  sweep_from T b w h (suc n) q e g f =
      go (T.has q) (h.one_at q g (omega arith))
      (sweep_before T b w h n (suc q) (step_by (T.has q) (e.cells q) (T.line q) e) q g (omega arith) (omega arith))
      (sweep_from T b w h n (suc q) (step_by (T.has q) (e.cells q) (T.line q) e) (omega arith) (omega arith))
    where
      go : {a : K} {R : Row O n} (t : Bool) → (t ≡ true → (T.line q).cells q ≡ 𝟙)
          → a ≡ (step_by t (e.cells q) (T.line q) e).cells q
          → R ≡ reduce (view T n (suc q)) (read (step_by t (e.cells q) (T.line q) e) n (suc q))
          → ◌≡◌ {A = Row O (suc n)} (a, R)
          (reduce (slot t (read (T.line q) n (suc q)) (view T n (suc q))) (e.cells q, read e n (suc q)))
      go true o p r =
          ap₂ (λ x y. (x, y)) (p ∙ simp (o refl, *-𝟙, +-self))
          (r ∙ ap (λ z. reduce (view T n (suc q)) z) (read-add (e.cells q) (T.line q) e n (suc q)))
      go false o p r = ap₂ (λ x y. (x, y)) p r

  pub sweep_reduce : (T : Table O) (b w : ℕ) → Echelon T b w → (e : Line O) → read (sweep T w b e) w b ≡ reduce (view T w b) (read e w b)
  sweep_reduce T b w h e = sweep_from T b w h w b e (omega arith) (omega arith)

  leads_on : (e : Line O) (q p : ℕ) → Leads e q p → Leads e (suc q) p
  leads_on e q p h = record { below = λ j g l. h.below j (omega arith) l; here = h.here }

  pub lead_read : (e : Line O) (n q p : ℕ) → Leads e q p → q ≤ p → p < q +ₙ n → lead O n (read e n q) ≡ e.cells p
  unfolding read
  lead_read e zero q p h g l = absurd (omega arith)
  lead_read e (suc n) q p h g l = go (ℕ_discrete q p) (λ g'. lead_read e n (suc q) p (leads_on e q p h) g' (omega arith))
    where
      go : Dec (q ≡ p) → (suc q ≤ p → lead O n (read e n (suc q)) ≡ e.cells p) → lead O (suc n) (read e (suc n) q) ≡ e.cells p
      go (yes c) ih = lin.lead_here O L n _ (λ z. h.here (ap e.cells (sym c) ∙ z)) ∙ ap e.cells c
      go (no c) ih = lin.lead_later O L n _ (h.below q (omega arith) (omega arith)) ∙ ih (omega arith)

  pub lead_none : (e : Line O) (n q : ℕ) → ((j : ℕ) → q ≤ j → j < q +ₙ n → e.cells j ≡ 𝟘) → lead O n (read e n q) ≡ 𝟘
  unfolding lead read
  lead_none e zero q h = refl
  lead_none e (suc n) q h =
      lin.lead_later O L n _ (h q (omega arith) (omega arith)) ∙ lead_none e n (suc q) (λ j g l. h j (omega arith) (omega arith))

  pub at_read : (e r : Line O) (n q p : ℕ) → Leads e q p → q ≤ p → p < q +ₙ n → at O n (read e n q) (read r n q) ≡ r.cells p
  unfolding read
  at_read e r zero q p h g l = absurd (omega arith)
  at_read e r (suc n) q p h g l = go (ℕ_discrete q p) (λ g'. at_read e r n (suc q) p (leads_on e q p h) g' (omega arith))
    where
      go : Dec (q ≡ p) → (suc q ≤ p → at O n (read e n (suc q)) (read r n (suc q)) ≡ r.cells p)
          → at O (suc n) (read e (suc n) q) (read r (suc n) q) ≡ r.cells p
      go (yes c) ih = lin.at_here O L n _ _ (λ z. h.here (ap e.cells (sym c) ∙ z)) ∙ ap r.cells c
      go (no c) ih = lin.at_later O L n _ _ (h.below q (omega arith) (omega arith)) ∙ ih (omega arith)

  -- To add nothing changes nothing, so such rows may be passed over.
  pub add_line-zero : (k : K) (r e : Line O) → k ≡ 𝟘 → add_line k r e ≡ e
  unfolding add_line
  add_line-zero k r e z i = record {
    cells = λ j. (ap (λ a. e.cells j + a) (ap (λ c. c * r.cells j) z ∙ *-comm 𝟘 (r.cells j) ∙ *-𝟘 (r.cells j)) ∙ +-𝟘 (e.cells j)) i;
    sym = (ap (λ v. e.sym ⊕ v) (ap (λ c. c • r.sym) z ∙ 𝟘-• r.sym) ∙ ⊕-null e.sym) i;
  }

  slot_same : {n : ℕ} (t t' : Bool) (r r' : Row O n) (S S' : State O n) → t' ≡ t → (t ≡ true → r' ≡ r) → S' ≡ S → slot t' r' S' ≡ slot t r S
  unfolding slot
  slot_same true t' r r' S S' p q s = subst (λ u. slot u r' S' ≡ pivot r S) (sym p) (ap₂ pivot (q refl) s)
  slot_same false t' r r' S S' p q s = subst (λ u. slot u r' S' ≡ free S) (sym p) (ap free s)

  -- Past the new row nothing changes.
  view_after : (T T' : Table O) (b w p : ℕ) (e : Line O) → Echelon T b w → Places T T' b w p e → b ≤ p
      → (n q : ℕ) → p < q → q +ₙ n ≤ b +ₙ w → view T' n q ≡ view T n q
  unfolding view
  view_after T T' b w p e h f g zero q l m = refl
  view_after T T' b w p e h f g (suc n) q l m =
      slot_same (T.has q) (T'.has q) _ _ _ _
      (f.has_old q (omega arith) (omega arith) (omega arith))
      (λ t. ap (λ x. read x n (suc q)) (f.line_old q (omega arith) (omega arith) (omega arith) t
      ∙ add_line-zero _ e (T.line q) (h.zero-before q (omega arith) (omega arith) t p g l)))
      (view_after T T' b w p e h f g n (suc q) (omega arith) (omega arith))

  slot_new : {n : ℕ} (t t' : Bool) (r r' R : Row O n) (S S' : State O n) (a : K) → t' ≡ true → t ≡ false → r' ≡ R → S' ≡ S → a ≢ 𝟘
      → slot t' r' S' ≡ place (slot t r S) (a, R)
  unfolding slot place place_free
  slot_new {n} t t' r r' R S S' a p u q s z =
      slot_same true t' R r' S S' p (λ _. q) s ∙ go (zero? a) ∙ ap (λ x. place (slot x r S) (a, R)) (sym u)
    where
      go : (d : Dec (a ≡ 𝟘)) → pivot R S ≡ place_free d (place S R) R S
      go (yes y) = absurd (z y)
      go (no _) = refl

  slot_old : {n : ℕ} (t t' : Bool) (r r' R : Row O n) (S S' : State O n) (a : K) → t' ≡ t → (t ≡ true → r' ≡ axpy O n (at O n R r) R r)
      → S' ≡ place S R → a ≡ 𝟘 → slot t' r' S' ≡ place (slot t r S) (a, R)
  unfolding slot place place_free
  slot_old {n} true t' r r' R S S' a p q s z = slot_same true t' _ r' _ S' p q s
  slot_old {n} false t' r r' R S S' a p q s z = slot_same false t' r r' _ S' p (λ x. absurd (true≢false (sym x))) s ∙ go (zero? a)
    where
      go : (d : Dec (a ≡ 𝟘)) → free (place S R) ≡ place_free d (place S R) R S
      go (yes _) = refl
      go (no y) = absurd (y z)

  view_place_from : (T T' : Table O) (b w p : ℕ) (e : Line O) → Echelon T b w → Places T T' b w p e → T.has p ≡ false → b ≤ p
      → (n q : ℕ) → Leads e q p → b ≤ q → q ≤ p → p < q +ₙ n → q +ₙ n ≤ b +ₙ w
      → view T' n q ≡ place (view T n q) (read e n q)
  unfolding view read
  view_place_from T T' b w p e h f u g zero q d c l m k = absurd (omega arith)
  view_place_from T T' b w p e h f u g (suc n) q d c l m k =
      go (ℕ_discrete q p) (λ l'. view_place_from T T' b w p e h f u g n (suc q) (leads_on e q p d) (omega arith) l' (omega arith) (omega arith))
    where
      go : Dec (q ≡ p) → (suc q ≤ p → view T' n (suc q) ≡ place (view T n (suc q)) (read e n (suc q)))
          → slot (T'.has q) (read (T'.line q) n (suc q)) (view T' n (suc q))
          ≡ place (slot (T.has q) (read (T.line q) n (suc q)) (view T n (suc q))) (e.cells q, read e n (suc q))
      go (yes x) ih =
          slot_new (T.has q) (T'.has q) _ _ _ _ _ (e.cells q)
          (ap T'.has x ∙ f.has_new)
          (ap T.has x ∙ u)
          (ap (λ y. read y n (suc q)) (ap T'.line x ∙ f.line_new))
          (view_after T T' b w p e h f g n (suc q) (omega arith) (omega arith))
          (λ z. d.here (ap e.cells (sym x) ∙ z))
      go (no x) ih =
          slot_old (T.has q) (T'.has q) _ _ _ _ _ (e.cells q)
          (f.has_old q c (omega arith) x)
          (λ t. ap (λ y. read y n (suc q)) (f.line_old q c (omega arith) x t)
          ∙ read-add ((T.line q).cells p) e (T.line q) n (suc q)
          ∙ ap (λ y. axpy O n y (read e n (suc q)) (read (T.line q) n (suc q)))
          (sym (at_read e (T.line q) n (suc q) p (leads_on e q p d) (omega arith) (omega arith))))
          (ih (omega arith))
          (d.below q (omega arith) (omega arith))

  pub view_place : (T T' : Table O) (b w p : ℕ) (e : Line O) → Echelon T b w → Places T T' b w p e → T.has p ≡ false
      → Leads e b p → b ≤ p → p < b +ₙ w → view T' w b ≡ place (view T w b) (read e w b)
  view_place T T' b w p e h f u d g l = view_place_from T T' b w p e h f u g w b d (omega arith) g l (omega arith)

  read_push : (e : Line O) (n q m : ℕ) → q +ₙ n ≡ m → e.cells m ≡ 𝟘 → read e (suc n) q ≡ push O n (read e n q)
  unfolding read push
  read_push e zero q m p z = ap (λ a. (a, e.sym)) (ap e.cells (let x : q ≡ m = omega arith in x) ∙ z)
  read_push e (suc n) q m p z = ap (λ r. (e.cells q, r)) (read_push e n (suc q) m (omega arith) z)

  view_extend : (T T' : Table O) (b w : ℕ) → Echelon T b w → Moves T T' b w → (n q : ℕ) → b < q → q +ₙ n ≡ b +ₙ w
      → view T' (suc n) q ≡ extend (view T n q)
  unfolding view slot extend
  view_extend T T' b w h f zero q g l =
      slot_same false (T'.has q) (T'.line q).sym _ end _
      (ap T'.has (let x : q ≡ b +ₙ w = omega arith in x) ∙ f.has_last) (λ x. absurd (true≢false (sym x))) refl
  view_extend T T' b w h f (suc n) q g l =
      go (T.has q) (f.has_kept q g (omega arith))
      (λ t.
      ap (λ y. read y (suc n) (suc q)) (f.line_kept q g (omega arith) t)
      ∙ read_push (T.line q) n (suc q) (b +ₙ w) (omega arith)
      (f.wraps q ∙ h.zero-before q (omega arith) (omega arith) t b (omega arith) g))
      (view_extend T T' b w h f n (suc q) (omega arith) (omega arith))
    where
      go : {R : Row O (suc n)} {S : State O (suc n)} (t : Bool) → T'.has q ≡ t → (t ≡ true → R ≡ push O n (read (T.line q) n (suc q)))
          → S ≡ extend (view T n (suc q)) → slot (T'.has q) R S ≡ extend (slot t (read (T.line q) n (suc q)) (view T n (suc q)))
      go true p r s = slot_same true (T'.has q) _ _ _ _ p r s
      go false p r s = slot_same false (T'.has q) (push O n (read (T.line q) n (suc q))) _ _ _ p r s

  pub view_advance : (T T' : Table O) (b w : ℕ) → Echelon T b w → Moves T T' b w → view T' w (suc b) ≡ advance (view T w b)
  unfolding view slot advance
  view_advance T T' b zero h f = refl
  view_advance T T' b (suc n) h f = view_extend T T' b (suc n) h f n (suc b) (omega arith) (omega arith) ∙ go (T.has b)
    where
      go : (t : Bool) → extend (view T n (suc b)) ≡ advance (slot t (read (T.line b) n (suc b)) (view T n (suc b)))
      go true = refl
      go false = refl
