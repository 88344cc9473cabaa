-- The rows that stay when the window moves on, read where they stand: the system moved on, though no row has been dropped yet.
use Rattle.std.specs.Prelude.{◌≡◌, ◌≤◌, ◌<◌, ◌-◌, ◌+◌ as ◌+ₙ◌}
use Rattle.words.specs.Words.{arith, ℕ, refl, ◌∙◌, sym, ap, suc, zero, false, Bool, subst, ap₂, add-zero, dec_lt}
use Rattle.decoder.specs.Field.{Ops, Laws}
use Rattle.decoder.specs.Model.{reduce, advance}
use Rattle.decoder.specs.Receiver.{advance_by}
use Rattle.decoder.specs.Table.{Line, Table, read, slot, view, Echelon}
use Rattle.decoder.specs.TableSteps.{Moves, step_by, sweep}
use Rattle.decoder.proofs.Jump.{advance_by_suc}
use Rattle.decoder.proofs.Refine as refine
use Rattle.decoder.proofs.Steps as steps

abbrev if_below : {p c : ℕ} → Dec (p < c) → Bool → Bool
if_below (yes _) t = t
if_below (no _) t = false

module _ {O : Ops} (L : Laws O) (T : Table O) (b w : ℕ) (wraps : (q j : ℕ) → (T.line q).cells (j +ₙ w) ≡ (T.line q).cells j) (h : Echelon T b w) where
  -- The table without rows past the window.
  abbrev cut : Table O
  cut = record { has = λ p. if_below (dec_lt p (b +ₙ w)) (T.has p); line = T.line }

  within : (p : ℕ) → p < b +ₙ w → cut.has p ≡ T.has p
  within p l = go (dec_lt p (b +ₙ w))
    where
      go : (d : Dec (p < b +ₙ w)) → if_below d (T.has p) ≡ T.has p
      go (yes _) = refl
      go (no n) = absurd (n l)

  past : (p : ℕ) → b +ₙ w ≤ p → cut.has p ≡ false
  past p l = go (dec_lt p (b +ₙ w))
    where
      go : (d : Dec (p < b +ₙ w)) → if_below d (T.has p) ≡ false
      go (yes c) = absurd (omega arith)
      go (no _) = refl

  view_same : (n q : ℕ) → q +ₙ n ≤ b +ₙ w → view cut n q ≡ view T n q
  unfolding view
  view_same zero q l = refl
  view_same (suc n) q l =
      ap₂ (λ t S. slot t (read (T.line q) n (suc q)) S) (within q (omega arith)) (view_same n (suc q) (omega arith))

  moves : (d : ℕ) → Moves cut cut (b +ₙ d) w
  moves d = record {
    has_last = past (b +ₙ d +ₙ w) (omega arith);
    has_kept = λ q c l. refl;
    line_kept = λ q c l t. refl;
    wraps = λ q. wraps q (b +ₙ d);
  }

  stays_echelon : (d : ℕ) → Echelon cut (b +ₙ d) w
  stays_echelon zero =
      subst (λ k. Echelon cut k w) (sym (add-zero b))
      (record {
        one_at = λ q c l t. h.one_at q c l (sym (within q l) ∙ t);
        zero-before = λ q c l t. h.zero-before q c l (sym (within q l) ∙ t);
      })
  stays_echelon (suc d) =
      let next : suc (b +ₙ d) ≡ b +ₙ suc d = omega arith in
      subst (λ k. Echelon cut k w) next (steps.moves_echelon L cut cut (b +ₙ d) w (stays_echelon d) (moves d))

  stays_view : (d : ℕ) → view cut w (b +ₙ d) ≡ advance_by d (view T w b)
  unfolding advance_by
  stays_view zero = ap (view cut w) (add-zero b) ∙ view_same w b (omega arith)
  stays_view (suc d) =
      let next : b +ₙ suc d ≡ suc (b +ₙ d) = omega arith in
      ap (view cut w) next
      ∙ refine.view_advance L cut cut (b +ₙ d) w (stays_echelon d) (moves d)
      ∙ ap advance (stays_view d)
      ∙ sym (advance_by_suc d (view T w b))

  stays_sweep : (n q : ℕ) (e : Line O) → b +ₙ w ≤ q +ₙ n → sweep cut n q e ≡ sweep T ((b +ₙ w) - q) q e
  unfolding sweep step_by
  stays_sweep zero q e l = let z : (b +ₙ w) - q ≡ 0 = omega arith in ap (λ k. sweep T k q e) (sym z)
  stays_sweep (suc n) q e l = go (dec_lt q (b +ₙ w)) (λ x. stays_sweep n (suc q) x (omega arith))
    where
      go : Dec (q < b +ₙ w) → ((x : Line O) → sweep cut n (suc q) x ≡ sweep T ((b +ₙ w) - suc q) (suc q) x)
          → sweep cut n (suc q) (step_by (cut.has q) (e.cells q) (T.line q) e) ≡ sweep T ((b +ₙ w) - q) q e
      go (yes c) ih =
          let more : (b +ₙ w) - q ≡ suc ((b +ₙ w) - suc q) = omega arith in
          ap (λ t. sweep cut n (suc q) (step_by t (e.cells q) (T.line q) e)) (within q c)
          ∙ ih (step_by (T.has q) (e.cells q) (T.line q) e)
          ∙ ap (λ k. sweep T k q e) (sym more)
      go (no c) ih =
          let z : (b +ₙ w) - suc q ≡ 0 = omega arith in
          let y : (b +ₙ w) - q ≡ 0 = omega arith in
          ap (λ t. sweep cut n (suc q) (step_by t (e.cells q) (T.line q) e)) (past q (omega arith))
          ∙ ih e ∙ ap (λ k. sweep T k (suc q) e) z ∙ ap (λ k. sweep T k q e) (sym y)

  -- To sweep with the rows that stay reduces by the system moved on.
  pub stays_reduce : (d : ℕ) (e : Line O)
      → read (sweep T (w - d) (b +ₙ d) e) w (b +ₙ d) ≡ reduce (advance_by d (view T w b)) (read e w (b +ₙ d))
  stays_reduce d e =
      let count : (b +ₙ w) - (b +ₙ d) ≡ w - d = omega arith in
      ap (λ k. read (sweep T k (b +ₙ d) e) w (b +ₙ d)) (sym count)
      ∙ ap (λ x. read x w (b +ₙ d)) (sym (stays_sweep w (b +ₙ d) e (omega arith)))
      ∙ refine.sweep_reduce L cut (b +ₙ d) w (stays_echelon d) e
      ∙ ap (λ S. reduce S (read e w (b +ₙ d))) (stays_view d)
