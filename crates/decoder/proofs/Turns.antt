-- A step for each of several positions, one after the other. Where steps commute and go by the remainder of the position,
-- a turn around the window may begin anywhere: at the oldest position, or at row 0.
use Rattle.std.specs.Prelude.{◌≡◌, ◌≤◌, ◌+◌, ◌<◌, ◌%◌}
use Rattle.words.specs.Words.{arith, ℕ, refl, ◌∙◌, sym, ap, suc, zero, add-zero, mod-eq_of_lt, add-mod_right}

module _ {A : Type 0} where
  -- The steps of the `n` positions from `q` on.
  unfoldable pub turns : (ℕ → A → A) → (n q : ℕ) → A → A
  turns step zero q x = x
  turns step (suc n) q x = turns step n (suc q) (step q x)

  pub turns_last : (step : ℕ → A → A) (n q : ℕ) (x : A) → turns step (suc n) q x ≡ step (q + n) (turns step n q x)
  unfolding turns
  turns_last step zero q x = ap (λ k. step k x) (sym (add-zero q))
  turns_last step (suc n) q x =
      let e : suc q + n ≡ q + suc n = omega arith in
      turns_last step n (suc q) (step q x) ∙ ap (λ k. step k (turns step n (suc q) (step q x))) e

  -- Steps that do the same at each position do the same together.
  pub turns_same : (s t : ℕ → A → A) (n q : ℕ) → ((p : ℕ) → q ≤ p → p < q + n → (y : A) → s p y ≡ t p y) → (x : A) → turns s n q x ≡ turns t n q x
  unfolding turns
  turns_same s t zero q h x = refl
  turns_same s t (suc n) q h x =
      ap (turns s n (suc q)) (h q (omega arith) (omega arith) x) ∙ turns_same s t n (suc q) (λ p c l. h p (omega arith) (omega arith)) (t q x)

  -- Steps that do nothing may be left out at the end.
  pub turns_idle : (step : ℕ → A → A) (k n q : ℕ) → ((p : ℕ) → q + n ≤ p → p < q + (n + k) → (y : A) → step p y ≡ y) → (x : A)
      → turns step (n + k) q x ≡ turns step n q x
  turns_idle step zero n q h x = ap (λ i. turns step i q x) (add-zero n)
  turns_idle step (suc k) n q h x =
      let e : n + suc k ≡ suc (n + k) = omega arith in
      ap (λ i. turns step i q x) e
      ∙ turns_last step (n + k) q x
      ∙ h (q + (n + k)) (omega arith) (omega arith) (turns step (n + k) q x)
      ∙ turns_idle step k n q (λ p c l. h p c (omega arith)) x

  module _ (step : ℕ → A → A) (swap : (p q : ℕ) (x : A) → step p (step q x) ≡ step q (step p x)) where
    pass : (p n q : ℕ) (x : A) → step p (turns step n q x) ≡ turns step n q (step p x)
    unfolding turns
    pass p zero q x = refl
    pass p (suc n) q x = pass p n (suc q) (step q x) ∙ ap (turns step n (suc q)) (swap p q x)

    turn_on : (w : ℕ) → ((p : ℕ) (x : A) → step (p + w) x ≡ step p x) → (b : ℕ) (x : A) → turns step w (suc b) x ≡ turns step w b x
    unfolding turns
    turn_on zero h b x = refl
    turn_on (suc n) h b x =
        let e : suc b + n ≡ b + suc n = omega arith in
        turns_last step n (suc b) x
        ∙ ap (λ k. step k (turns step n (suc b) x)) e
        ∙ h b (turns step n (suc b) x)
        ∙ pass b n (suc b) x

    pub turn : (w : ℕ) → ((p : ℕ) (x : A) → step (p + w) x ≡ step p x) → (b : ℕ) (x : A) → turns step w b x ≡ turns step w 0 x
    turn w h zero x = refl
    turn w h (suc b) x = turn_on w h b x ∙ turn w h b x

  -- Steps by remainder, around the window from `b` on: those of the rows 0, 1, .. in order.
  pub turn_rows : (step : ℕ → A → A) → ((p q : ℕ) (x : A) → step p (step q x) ≡ step q (step p x)) → (w b : ℕ) (x : A)
      → turns (λ p. step (p % w)) w b x ≡ turns step w 0 x
  turn_rows step swap w b x =
      turn (λ p. step (p % w)) (λ p q y. swap (p % w) (q % w) y) w (λ p y. ap (λ k. step k y) (add-mod_right p w)) b x
      ∙ turns_same (λ p. step (p % w)) step w 0 (λ p c l y. ap (λ k. step k y) (mod-eq_of_lt (omega arith))) x
