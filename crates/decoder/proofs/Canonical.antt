-- The reduced form is canonical: two reduced systems with the same fillings are one.
use Rattle.std.specs.Prelude.{◌≡◌, ◌↔◌}
use Rattle.words.specs.Words.{ℕ, refl, ◌∙◌, sym, ap, subst, ap₂}
use Rattle.decoder.specs.Field.{Ops, Laws}
use Rattle.decoder.specs.Model.{ext, Filling, Row, State, end, free, pivot, Sat, Reduced, Rref, eval}
use Rattle.decoder.proofs.Linear as lin
use Rattle.decoder.proofs.Elimination as elimination

module _ {O : Ops} (L : Laws O) where
  open O use {K, 𝟘, ◌+◌, zero?, null, ◌⊕◌, ◌•◌}
  open L use {⊕-self, +-•, unit, unit≢null}

  infixl 50 ◌+◌
  infixl 50 ◌⊕◌
  infixr 60 ◌•◌
  -- Where two coefficients have the same product with a symbol that is not null, their sum is zero.
  sum-zero : (a b : K) → a • unit ≡ b • unit → a + b ≡ 𝟘
  sum-zero a b e = go (zero? (a + b))
    where
      go : Dec (a + b ≡ 𝟘) → a + b ≡ 𝟘
      go (yes z) = z
      go (no h) =
          absurd (unit≢null (elimination.nonzero_null L (a + b) unit h (+-• a b unit ∙ ap (λ v. v ⊕ b • unit) e ∙ ⊕-self (b • unit))))

  -- Two reduced forms that agree on every filling are one.
  pub alike : {n : ℕ} (S : State O n) (e f : Row O n) → Reduced S e → Reduced S f → ((x : Filling O) → Sat S x → eval O n e x ≡ eval O n f x) → e ≡ f
  unfolding eval
  alike end e f g h s = s (λ _. null) tt
  alike (free {n} S) e f g h s =
      let rest : (y : Filling O) → Sat S y → eval O n e.1 y ≡ eval O n f.1 y =
      (λ y t.
      lin.⊕-cancel O L null _ _
      (ap (λ v. v ⊕ eval O n e.1 y) (sym (lin.•-null O L e.0)) ∙ s (ext null y) t ∙ ap (λ v. v ⊕ eval O n f.1 y) (lin.•-null O L f.0))) in
      let y = elimination.solution L S in
      let t = elimination.solution_sat L S in
      ap₂ (λ a r. (a, r))
      (lin.same O L e.0 f.0 (sum-zero e.0 f.0
      (lin.⊕-cancel-right O L (eval O n e.1 y) _ _ (s (ext unit y) t ∙ ap (λ v. f.0 • unit ⊕ v) (sym (rest y t))))))
      (alike S e.1 f.1 g h rest)
  alike (pivot {n} r S) e f g h s =
      ap₂ (λ a r. (a, r)) (g.0 ∙ sym h.0)
      (alike S e.1 f.1 g.1 h.1
      (λ y t.
      let x = ext (eval O n r y) y in
      sym (elimination.eval_zero L n e x g.0) ∙ s x (refl, t) ∙ elimination.eval_zero L n f x h.0))

  -- Two reduced systems with the same fillings are one.
  pub canonical : {n : ℕ} (S T : State O n) → Rref S → Rref T → ((x : Filling O) → Sat S x ↔ Sat T x) → S ≡ T
  canonical end end f g s = refl
  canonical (free S) (free T) f g s = ap free (canonical S T f g (λ y. s (ext null y)))
  canonical (free S) (pivot {n} r T) f g s =
      let y = elimination.solution L S in
      let t = elimination.solution_sat L S in
      absurd (unit≢null (((s (ext unit y)).0 t).0 ∙ sym ((s (ext null y)).0 t).0))
  canonical (pivot {n} r S) (free T) f g s =
      let y = elimination.solution L T in
      let t = elimination.solution_sat L T in
      absurd (unit≢null (((s (ext unit y)).1 t).0 ∙ sym ((s (ext null y)).1 t).0))
  canonical (pivot {n} r S) (pivot q T) f g s =
      let ih = canonical S T f.1 g.1
      (λ y. ((λ t. ((s (ext (eval O n r y) y)).0 (refl, t)).1), (λ t. ((s (ext (eval O n q y) y)).1 (refl, t)).1))) in
      ap₂ pivot
      (alike S r q f.0 (subst (λ X. Reduced X q) (sym ih) g.0) (λ y t. ((s (ext (eval O n r y) y)).0 (refl, t)).0))
      ih
