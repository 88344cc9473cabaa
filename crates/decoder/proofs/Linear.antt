-- The linear algebra of the affine form: row operations, and what they do to its value.
use Rattle.std.specs.Prelude.{◌≡◌, ◌≢◌, ◌↔◌}
use Rattle.words.specs.Words.{ℕ, refl, ◌∙◌, sym, ap, Some, suc, zero, None}
use mathlib.Core.Logic.{if_pos, if_neg}
use Rattle.decoder.specs.Field.{Ops, Laws}
use Rattle.decoder.specs.Model.{tail, only_if, Filling, Row, eval, axpy, scale, lead, at, symbol, push}

pub only_if_holds : {P A : Type 0} (d : Dec P) (a : A) → P → only_if d a ≡ Some a
only_if_holds (yes _) a p = refl
only_if_holds (no n) a p = absurd (n p)

pub only_if_fails : {P A : Type 0} (d : Dec P) (a : A) → ¬ P → only_if d a ≡ None
only_if_fails (yes p) a n = absurd (n p)
only_if_fails (no _) a n = refl

module _ (O : Ops) (L : Laws O) where
  open O use {K, Sym, 𝟘, ◌+◌, zero?, null, ◌⊕◌, ◌•◌}
  open L use {+_comm, +_assoc, +-𝟘, ⊕-comm, ⊕-assoc, ⊕-null, ⊕-self, •-⊕, +-•, *-•, 𝟘-•, +-self}

  infixl 50 ◌+◌
  infixl 50 ◌⊕◌
  infixr 60 ◌•◌
  -- Two coefficients whose sum is zero are the same.
  pub same : (a b : K) → a + b ≡ 𝟘 → a ≡ b
  same a b z =
      sym (+-𝟘 a) ∙ ap (λ c. a + c) (sym (+-self b)) ∙ sym (+_assoc a b b) ∙ ap (λ c. c + b) z ∙ +_comm 𝟘 b ∙ +-𝟘 b

  pub null-⊕ : (v : Sym) → null ⊕ v ≡ v
  null-⊕ v = ⊕-comm null v ∙ ⊕-null v

  pub ⊕-left-comm : (u v w : Sym) → u ⊕ (v ⊕ w) ≡ v ⊕ (u ⊕ w)
  ⊕-left-comm u v w = sym (⊕-assoc u v w) ∙ ap (λ z. z ⊕ w) (⊕-comm u v) ∙ ⊕-assoc v u w

  pub •-null : (a : K) → a • null ≡ null
  •-null a = ap (λ v. a • v) (sym (⊕-self null)) ∙ •-⊕ a null null ∙ ⊕-self (a • null)

  -- Adding twice takes it away again.
  pub ⊕-twice : (u v : Sym) → u ⊕ (u ⊕ v) ≡ v
  ⊕-twice u v = sym (⊕-assoc u u v) ∙ ap (λ w. w ⊕ v) (⊕-self u) ∙ null-⊕ v

  pub ⊕-cancel : (u v w : Sym) → u ⊕ v ≡ u ⊕ w → v ≡ w
  ⊕-cancel u v w e = sym (⊕-twice u v) ∙ ap (λ z. u ⊕ z) e ∙ ⊕-twice u w

  pub ⊕-cancel-right : (u v w : Sym) → v ⊕ u ≡ w ⊕ u → v ≡ w
  ⊕-cancel-right u v w e = ⊕-cancel u v w (⊕-comm u v ∙ e ∙ ⊕-comm w u)

  -- A sum is null where both are the same.
  pub null_iff : (u v : Sym) → (u ⊕ v ≡ null) ↔ (u ≡ v)
  null_iff u v = ((λ e. ⊕-cancel v u v (⊕-comm v u ∙ e ∙ sym (⊕-self v))), (λ e. ap (λ w. w ⊕ v) e ∙ ⊕-self v))

  pub eval_axpy : (n : ℕ) (k : K) (r e : Row O n) (x : Filling O) → eval O n (axpy O n k r e) x ≡ eval O n e x ⊕ k • eval O n r x
  unfolding eval axpy
  eval_axpy zero k r e x = refl
  eval_axpy (suc n) k r e x =
      simp (eval, axpy, eval_axpy n k r.1 e.1 (tail x), +-•, *-•, •-⊕, ⊕-assoc, ⊕-left-comm)

  pub eval_scale : (n : ℕ) (k : K) (e : Row O n) (x : Filling O) → eval O n (scale O n k e) x ≡ k • eval O n e x
  unfolding eval scale
  eval_scale zero k e x = refl
  eval_scale (suc n) k e x = simp (eval, scale, eval_scale n k e.1 (tail x), *-•, •-⊕)

  pub eval_push : (n : ℕ) (e : Row O n) (x : Filling O) → eval O (suc n) (push O n e) x ≡ eval O n e x
  unfolding eval push
  eval_push zero e x = simp (eval, push, 𝟘-•, null-⊕)
  eval_push (suc n) e x = simp (eval, push, eval_push n e.1 (tail x))

  -- The oldest coefficient that is not zero leads, and says where `at` looks.
  pub lead_here : (n : ℕ) (e : Row O (suc n)) → e.0 ≢ 𝟘 → lead O (suc n) e ≡ e.0
  unfolding lead
  lead_here n e z = if_neg (zero? e.0) z (lead O n e.1) e.0

  pub lead_later : (n : ℕ) (e : Row O (suc n)) → e.0 ≡ 𝟘 → lead O (suc n) e ≡ lead O n e.1
  unfolding lead
  lead_later n e z = if_pos (zero? e.0) z (lead O n e.1) e.0

  pub at_here : (n : ℕ) (e r : Row O (suc n)) → e.0 ≢ 𝟘 → at O (suc n) e r ≡ r.0
  unfolding at
  at_here n e r z = if_neg (zero? e.0) z (at O n e.1 r.1) r.0

  pub at_later : (n : ℕ) (e r : Row O (suc n)) → e.0 ≡ 𝟘 → at O (suc n) e r ≡ at O n e.1 r.1
  unfolding at
  at_later n e r z = if_pos (zero? e.0) z (at O n e.1 r.1) r.0

  -- Where every coefficient is zero, the form is its symbol.
  pub eval_lead : (n : ℕ) (e : Row O n) (x : Filling O) → lead O n e ≡ 𝟘 → eval O n e x ≡ symbol O n e
  unfolding eval symbol
  eval_lead zero e x h = refl
  eval_lead (suc n) e x h = go (zero? e.0) (eval_lead n e.1 (tail x))
    where
      go : Dec (e.0 ≡ 𝟘) → (lead O n e.1 ≡ 𝟘 → eval O n e.1 (tail x) ≡ symbol O n e.1)
          → e.0 • x 0 ⊕ eval O n e.1 (tail x) ≡ symbol O n e.1
      go (yes z) ih = simp (z, 𝟘-•, null-⊕) (ih (sym (lead_later n e z) ∙ h))
      go (no z) ih = absurd (z (sym (lead_here n e z) ∙ h))

  pub lead_push : (n : ℕ) (e : Row O n) → lead O (suc n) (push O n e) ≡ lead O n e
  unfolding lead push
  lead_push zero e = lead_later zero (push O zero e) refl
  lead_push (suc n) e = go (zero? e.0) (lead_push n e.1)
    where
      go : Dec (e.0 ≡ 𝟘) → lead O (suc n) (push O n e.1) ≡ lead O n e.1 → lead O (suc (suc n)) (push O (suc n) e) ≡ lead O (suc n) e
      go (yes z) ih = lead_later (suc n) (push O (suc n) e) z ∙ ih ∙ sym (lead_later n e z)
      go (no z) ih = lead_here (suc n) (push O (suc n) e) z ∙ sym (lead_here n e z)

  pub symbol_push : (n : ℕ) (e : Row O n) → symbol O (suc n) (push O n e) ≡ symbol O n e
  unfolding symbol push
  symbol_push zero e = refl
  symbol_push (suc n) e = symbol_push n e.1
