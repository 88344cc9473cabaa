-- A source packet is satisfied when its positions hold its symbols, a repair packet when each repair symbol is its combination.
use Rattle.std.specs.Prelude.{◌≡◌, ◌≤◌, ◌<◌, ◌∷◌, ◌↔◌, ◌+◌ as ◌+ₙ◌}
use Rattle.words.specs.Words.{arith, ℕ, List, refl, ◌∙◌, sym, ap, [], suc, zero, ap₂, ℕ_discrete}
use mathlib.Core.Logic.Iff
use Rattle.decoder.specs.Field.{Ops, Laws}
use Rattle.decoder.specs.Model.{tail, Filling, eval, symbol}
use Rattle.decoder.specs.Receiver.{shift, Hold, Satisfies, embed}
use Rattle.decoder.specs.Packets.{combine, row, only, source_rows, source, Repair, repair, Combined}
use Rattle.decoder.specs.Table.{Line, read}
use Rattle.decoder.proofs.History.{shift_at}
use Rattle.decoder.proofs.Linear as lin

module _ {O : Ops} (L : Laws O) where
  open O use {K, Sym, 𝟘, null, ◌⊕◌, ◌•◌}
  open L use {⊕-assoc, ⊕-null, 𝟘-•, 𝟙-•}

  infixl 50 ◌⊕◌
  infixr 60 ◌•◌
  eval_row : (n : ℕ) (c : ℕ → K) (s : Sym) (x : Filling O) → eval O n (row O n c s) x ≡ combine O n c x ⊕ s
  unfolding eval row combine
  eval_row zero c s x = sym (lin.null-⊕ O L s)
  eval_row (suc n) c s x = ap (λ v. c 0 • x 0 ⊕ v) (eval_row n (tail c) s (tail x)) ∙ sym (⊕-assoc _ _ _)

  row_holds : (n : ℕ) (c : ℕ → K) (s : Sym) (x : Filling O) → (eval O n (row O n c s) x ≡ null) ↔ (combine O n c x ≡ s)
  row_holds n c s x = rw (eval_row n c s x) (lin.null_iff O L (combine O n c x) s)

  combine_zero : (n : ℕ) (x : Filling O) → combine O n (λ _. 𝟘) x ≡ null
  unfolding combine
  combine_zero zero x = refl
  combine_zero (suc n) x = ap₂ ◌⊕◌ (𝟘-• (x 0)) (combine_zero n (tail x)) ∙ ⊕-null null

  combine_only : (n i : ℕ) (x : Filling O) → i < n → combine O n (only O i) x ≡ x i
  unfolding combine only
  combine_only zero i x h = absurd (omega arith)
  combine_only (suc n) zero x h = ap₂ ◌⊕◌ (𝟙-• (x 0)) (combine_zero n (tail x)) ∙ ⊕-null (x 0)
  combine_only (suc n) (suc i) x h = ap₂ ◌⊕◌ (𝟘-• (x 0)) (combine_only n i (tail x) (omega arith)) ∙ lin.null-⊕ O L (x (suc i))

  source_hold : (n m i : ℕ) (s : ℕ → Sym) (x : Filling O) → i +ₙ m ≤ n
      → Hold O n (source_rows O n m i s) x ↔ ((j : ℕ) → i ≤ j → j < i +ₙ m → x j ≡ s j)
  unfolding source_rows
  source_hold n zero i s x h = ((λ _ j g l. absurd (omega arith)), (λ _. tt))
  source_hold n (suc m) i s x h =
      let here = row_holds n (only O i) (s i) x in
      let value = combine_only n i x (omega arith) in
      let ih = source_hold n m (suc i) s x (omega arith) in (
        (λ t j g l. go (ℕ_discrete i j) (sym value ∙ here.0 t.0) (λ g'. ih.0 t.1 j g' (omega arith)) g),
        (λ a. (here.1 (value ∙ a i (omega arith) (omega arith)), ih.1 (λ j g l. a j (omega arith) (omega arith)))),
      )
    where
      go : {j : ℕ} → Dec (i ≡ j) → x i ≡ s i → (suc i ≤ j → x j ≡ s j) → i ≤ j → x j ≡ s j
      go (yes c) e r g = ap x (sym c) ∙ e ∙ ap s c
      go (no c) e r g = r (omega arith)

  pub source_satisfies : (p n : ℕ) (s : ℕ → Sym) (f : Filling O) → Satisfies O (source O p n s) f ↔ ((i : ℕ) → i < n → f (p +ₙ i) ≡ s i)
  unfolding source
  source_satisfies p n s f =
      let both = source_hold n n 0 s (shift p f) (omega arith) in (
        (λ h i l. sym (shift_at p i f) ∙ both.0 h i (omega arith) (omega arith)),
        (λ a. both.1 (λ j _ l. shift_at p j f ∙ a j (omega arith))),
      )

  pub repair_satisfies : (p n : ℕ) (es : List (Repair O)) (f : Filling O) → Satisfies O (repair O p n es) f ↔ Combined O n es (shift p f)
  unfolding repair
  repair_satisfies p n [] f = Iff.rfl
  repair_satisfies p n (e ∷ es) f = Iff.and (row_holds n e.coefs e.sym (shift p f)) (repair_satisfies p n es f)

  -- The equation's line in the working memory: coefficients at the packet's positions, and zero elsewhere in the window.
  symbol_row : (n : ℕ) (c : ℕ → K) (s : Sym) → symbol O n (row O n c s) ≡ s
  unfolding symbol row
  symbol_row zero c s = refl
  symbol_row (suc n) c s = symbol_row n (tail c) s

  pub read_embed : (w q d p m : ℕ) (e : Line O) (c : ℕ → K) → q +ₙ d ≡ p → d +ₙ m ≤ w
      → ((j : ℕ) → q ≤ j → j < p → e.cells j ≡ 𝟘)
      → ((i : ℕ) → i < m → e.cells (p +ₙ i) ≡ c i)
      → ((j : ℕ) → p +ₙ m ≤ j → j < q +ₙ w → e.cells j ≡ 𝟘)
      → read e w q ≡ embed O w d m (row O m c e.sym)
  unfolding read embed row
  read_embed zero q d p m e c h l before on after = sym (symbol_row m c e.sym)
  read_embed (suc w) q zero p zero e c h l before on after =
      ap₂ (λ a r. (a, r)) (after q (omega arith) (omega arith))
      (read_embed w (suc q) zero (suc p) zero e c (omega arith) (omega arith)
      (λ j g k. absurd (omega arith)) (λ i g. absurd (omega arith)) (λ j g k. after j (omega arith) (omega arith)))
  read_embed (suc w) q zero p (suc m) e c h l before on after =
      let x : q ≡ p +ₙ 0 = omega arith in
      ap₂ (λ a r. (a, r)) (ap e.cells x ∙ on 0 (omega arith))
      (read_embed w (suc q) zero (suc p) m e (tail c) (omega arith) (omega arith)
      (λ j g k. absurd (omega arith))
      (λ i g. let y : suc p +ₙ i ≡ p +ₙ suc i = omega arith in ap e.cells y ∙ on (suc i) (omega arith))
      (λ j g k. after j (omega arith) (omega arith)))
  read_embed (suc w) q (suc d) p m e c h l before on after =
      ap₂ (λ a r. (a, r)) (before q (omega arith) (omega arith))
      (read_embed w (suc q) d p m e c (omega arith) (omega arith)
      (λ j g k. before j (omega arith) k) on (λ j g k. after j g (omega arith)))
