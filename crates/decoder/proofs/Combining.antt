-- The rows of a reduced system can be added to an equation all at once: no row changes the coefficient at another's pivot,
-- so each multiplier is the coefficient that the equation has at the start, and the order is free.
-- Index
--   reduced_cells: an equation is reduced by the system of a table where it is zero at every pivot
--   cells_reduced
--   rref_cells: in a reduced system each row is zero at the later pivots
--   add_line-swap: two lines may be added in either order
--   sweep_lines: the sweep over the `n` positions from `q` on adds the rows 0, 1, .. at once
--   stays_lines: so the rows that stay when the window moves on by `d` reduce the equation by the system moved on
--   eliminate_line, normal_line
use Rattle.std.specs.Prelude.{◌≡◌, ◌≤◌, ◌<◌, ◌-◌, ◌%◌, ◌+◌ as ◌+ₙ◌}
use Rattle.words.specs.Words.{arith, ℕ, refl, ◌∙◌, sym, ap, suc, true, zero, false, Bool, ℕ_discrete, zero-add}
use Rattle.words.specs.Words.{true≢false}
use Rattle.decoder.specs.Field.{Ops, Laws}
use Rattle.decoder.specs.Model.{Reduced, Rref, axpy, scale, lead, at, reduce}
use Rattle.decoder.specs.Receiver.{advance_by}
use Rattle.decoder.specs.Table.{Line, Table, read, slot, view, Echelon}
use Rattle.decoder.specs.TableSteps.{add_line, scale_line, step_by, sweep, Leads, add_lines}
use Rattle.decoder.proofs.Turns.{turns, turns_last, turns_same, turns_idle, turn_rows}
use Rattle.decoder.proofs.Refine as refine
use Rattle.decoder.proofs.Staying as staying

module _ {O : Ops} where
  open O use {𝟘}

  -- An equation is reduced by the system of a table where it is zero at every pivot.
  pub reduced_cells : (T : Table O) (e : Line O) (n q : ℕ) → Reduced (view T n q) (read e n q)
      → (p : ℕ) → q ≤ p → p < q +ₙ n → T.has p ≡ true → e.cells p ≡ 𝟘
  unfolding view slot read
  reduced_cells T e zero q r p g l t = absurd (omega arith)
  reduced_cells T e (suc n) q r p g l t = go (T.has q) refl r (ℕ_discrete q p) (λ s g'. reduced_cells T e n (suc q) s p g' (omega arith) t)
    where
      go : (u : Bool) → T.has q ≡ u → Reduced (slot u (read (T.line q) n (suc q)) (view T n (suc q))) (e.cells q, read e n (suc q))
          → Dec (q ≡ p) → (Reduced (view T n (suc q)) (read e n (suc q)) → suc q ≤ p → e.cells p ≡ 𝟘) → e.cells p ≡ 𝟘
      go true u r (yes x) ih = ap e.cells (sym x) ∙ r.0
      go true u r (no x) ih = ih r.1 (omega arith)
      go false u r (yes x) ih = absurd (true≢false (sym t ∙ ap T.has (sym x) ∙ u))
      go false u r (no x) ih = ih r (omega arith)

  pub cells_reduced : (T : Table O) (e : Line O) (n q : ℕ) → ((p : ℕ) → q ≤ p → p < q +ₙ n → T.has p ≡ true → e.cells p ≡ 𝟘)
      → Reduced (view T n q) (read e n q)
  unfolding view slot read
  cells_reduced T e zero q z = tt
  cells_reduced T e (suc n) q z =
      go (T.has q) (z q (omega arith) (omega arith)) (cells_reduced T e n (suc q) (λ p g l t. z p (omega arith) (omega arith) t))
    where
      go : (u : Bool) → (u ≡ true → e.cells q ≡ 𝟘) → Reduced (view T n (suc q)) (read e n (suc q))
          → Reduced (slot u (read (T.line q) n (suc q)) (view T n (suc q))) (e.cells q, read e n (suc q))
      go true y r = (y refl, r)
      go false y r = r

  -- In a reduced system each row is zero at the later pivots.
  pub rref_cells : (T : Table O) (n q : ℕ) → Rref (view T n q) → (p r : ℕ) → q ≤ p → p < r → r < q +ₙ n → T.has p ≡ true → T.has r ≡ true
      → (T.line p).cells r ≡ 𝟘
  unfolding view slot read
  rref_cells T zero q f p r g l m s t = absurd (omega arith)
  rref_cells T (suc n) q f p r g l m s t = go (T.has q) refl f (ℕ_discrete q p) (λ f' g'. rref_cells T n (suc q) f' p r g' l (omega arith) s t)
    where
      go : (u : Bool) → T.has q ≡ u → Rref (slot u (read (T.line q) n (suc q)) (view T n (suc q)))
          → Dec (q ≡ p) → (Rref (view T n (suc q)) → suc q ≤ p → (T.line p).cells r ≡ 𝟘) → (T.line p).cells r ≡ 𝟘
      go true u f (yes x) ih =
          ap (λ i. (T.line i).cells r) (sym x) ∙ reduced_cells T (T.line q) n (suc q) f.0 r (omega arith) (omega arith) t
      go true u f (no x) ih = ih f.1 (omega arith)
      go false u f (yes x) ih = absurd (true≢false (sym s ∙ ap T.has (sym x) ∙ u))
      go false u f (no x) ih = ih f (omega arith)

module _ {O : Ops} (L : Laws O) where
  open O use {K, Sym, 𝟘, ◌+◌, ◌*◌, inv, ◌⊕◌, ◌•◌}
  open L use {+_comm, +_assoc, ⊕-comm, ⊕-assoc}

  infixl 50 ◌+◌
  infixl 60 ◌*◌
  infixl 50 ◌⊕◌
  infixr 60 ◌•◌
  -- Two lines may be added in either order.
  pub add_line-swap : (k j : K) (r s e : Line O) → add_line k r (add_line j s e) ≡ add_line j s (add_line k r e)
  unfolding add_line
  add_line-swap k j r s e i = record {
    cells = λ c. swap+ (e.cells c) (j * s.cells c) (k * r.cells c) i;
    sym = swap⊕ e.sym (j • s.sym) (k • r.sym) i;
  }
    where
      swap+ : (a b c : K) → a + b + c ≡ a + c + b
      swap+ a b c = +_assoc a b c ∙ ap (λ z. a + z) (+_comm b c) ∙ sym (+_assoc a c b)

      swap⊕ : (a b c : Sym) → a ⊕ b ⊕ c ≡ a ⊕ c ⊕ b
      swap⊕ a b c = ⊕-assoc a b c ∙ ap (λ z. a ⊕ z) (⊕-comm b c) ∙ sym (⊕-assoc a c b)

  add_lines-turns : (m : ℕ → K) (l : ℕ → Line O) (n : ℕ) (e : Line O) → turns (λ r. add_line (m r) (l r)) n 0 e ≡ add_lines m l n e
  unfolding turns add_lines
  add_lines-turns m l zero e = refl
  add_lines-turns m l (suc n) e =
      turns_last (λ r. add_line (m r) (l r)) n 0 e
      ∙ ap (λ k. add_line (m k) (l k) (turns (λ r. add_line (m r) (l r)) n 0 e)) (zero-add n)
      ∙ ap (add_line (m n) (l n)) (add_lines-turns m l n e)

  module _ (T : Table O) (b w : ℕ) (f : Rref (view T w b)) where
    -- The multipliers of the sweep are the coefficients at the start.
    sweep_turns : (m : ℕ → K) (n q : ℕ) (e : Line O) → b ≤ q → ((p : ℕ) → q ≤ p → p < q +ₙ n → p < b +ₙ w)
        → ((p : ℕ) → q ≤ p → p < q +ₙ n → T.has p ≡ true → m p ≡ e.cells p)
        → ((p : ℕ) → q ≤ p → p < q +ₙ n → T.has p ≡ false → m p ≡ 𝟘)
        → sweep T n q e ≡ turns (λ p. add_line (m p) (T.line p)) n q e
    unfolding sweep turns step_by add_line
    sweep_turns m zero q e g inside on off = refl
    sweep_turns m (suc n) q e g inside on off =
        let later = sweep_turns m n (suc q) (step_by (T.has q) (e.cells q) (T.line q) e) (omega arith)
        (λ p c l. inside p (omega arith) (omega arith))
        (λ p c l t. on p (omega arith) (omega arith) t
        ∙ sym (keeps p (T.has q) (λ u. rref_cells T w b f q p g c (inside p (omega arith) (omega arith)) u t)))
        (λ p c l t. off p (omega arith) (omega arith) t) in
        later
        ∙ ap (turns (λ p. add_line (m p) (T.line p)) n (suc q))
        (here (T.has q) (on q (omega arith) (omega arith)) (off q (omega arith) (omega arith)))
      where
        keeps : (p : ℕ) (u : Bool) → (u ≡ true → (T.line q).cells p ≡ 𝟘) → (step_by u (e.cells q) (T.line q) e).cells p ≡ e.cells p
        keeps p true z = refine.add-zero L (e.cells p) (e.cells q) ((T.line q).cells p) (z refl)
        keeps p false z = refl

        here : (u : Bool) → (u ≡ true → m q ≡ e.cells q) → (u ≡ false → m q ≡ 𝟘)
            → step_by u (e.cells q) (T.line q) e ≡ add_line (m q) (T.line q) e
        here true x y = ap (λ k. add_line k (T.line q) e) (sym (x refl))
        here false x y = sym (refine.add_line-zero L (m q) (T.line q) e (y refl))

    -- The rows by remainder, and the multipliers too.
    module _ (l : ℕ → Line O) (rows : (p : ℕ) → T.line p ≡ l (p % w)) (m : ℕ → K) (e : Line O) where
      -- The sweep over the `n` positions from `q` on adds the rows 0, 1, .. at once; a row that does not take part has the multiplier zero.
      pub sweep_lines : (n q : ℕ) → b ≤ q → n ≤ w → ((p : ℕ) → q ≤ p → p < q +ₙ n → p < b +ₙ w)
          → ((p : ℕ) → q ≤ p → p < q +ₙ n → T.has p ≡ true → m (p % w) ≡ e.cells p)
          → ((p : ℕ) → q ≤ p → p < q +ₙ n → T.has p ≡ false → m (p % w) ≡ 𝟘)
          → ((p : ℕ) → q +ₙ n ≤ p → p < q +ₙ w → m (p % w) ≡ 𝟘)
          → sweep T n q e ≡ add_lines m l w e
      sweep_lines n q g h inside on off past =
          let all : n +ₙ (w - n) ≡ w = omega arith in
          sweep_turns (λ p. m (p % w)) n q e g inside on off
          ∙ turns_same (λ p. add_line (m (p % w)) (T.line p)) (λ p. add_line (m (p % w)) (l (p % w))) n q
          (λ p _ _ y. ap (λ r. add_line (m (p % w)) r y) (rows p)) e
          ∙ sym (turns_idle (λ p. add_line (m (p % w)) (l (p % w))) (w - n) n q
          (λ p c k y. refine.add_line-zero L (m (p % w)) (l (p % w)) y (past p c (omega arith))) e)
          ∙ ap (λ k. turns (λ p. add_line (m (p % w)) (l (p % w))) k q e) all
          ∙ turn_rows (λ r. add_line (m r) (l r)) (λ p q y. add_line-swap (m p) (m q) (l p) (l q) y) w q e
          ∙ add_lines-turns m l w e

      -- So the rows that stay when the window moves on by `d` reduce the equation by the system moved on, though no row has been dropped yet.
      pub stays_lines : (wraps : (q j : ℕ) → (T.line q).cells (j +ₙ w) ≡ (T.line q).cells j) → Echelon T b w → (d : ℕ)
          → ((p : ℕ) → b +ₙ d ≤ p → p < b +ₙ w → T.has p ≡ true → m (p % w) ≡ e.cells p)
          → ((p : ℕ) → b +ₙ d ≤ p → p < b +ₙ w → T.has p ≡ false → m (p % w) ≡ 𝟘)
          → ((p : ℕ) → b +ₙ d ≤ p → b +ₙ w ≤ p → p < b +ₙ d +ₙ w → m (p % w) ≡ 𝟘)
          → read (add_lines m l w e) w (b +ₙ d) ≡ reduce (advance_by d (view T w b)) (read e w (b +ₙ d))
      stays_lines wraps h d on off past =
          ap (λ x. read x w (b +ₙ d))
          (sym (sweep_lines (w - d) (b +ₙ d) (omega arith) (omega arith) (λ p c k. omega arith)
          (λ p c k t. on p c (omega arith) t) (λ p c k t. off p c (omega arith) t) (λ p c k. past p (omega arith) (omega arith) k)))
          ∙ staying.stays_reduce L T b w wraps h d e

  -- A line whose leading coefficient stands at `p`, as a row of the window: what it does to another line, and what becomes of it when it is scaled.
  module _ (w b p : ℕ) (c : b ≤ p) (l : p < b +ₙ w) where
    pub eliminate_line : (g e : Line O) → Leads g b p
        → read (add_line (e.cells p) g e) w b ≡ axpy O w (at O w (read g w b) (read e w b)) (read g w b) (read e w b)
    eliminate_line g e d =
        refine.read-add L (e.cells p) g e w b
        ∙ ap (λ k. axpy O w k (read g w b) (read e w b)) (sym (refine.at_read L g e w b p d c l))

    pub normal_line : (e : Line O) → Leads e b p
        → read (scale_line (inv (e.cells p)) e) w b ≡ scale O w (inv (lead O w (read e w b))) (read e w b)
    normal_line e d =
        refine.read_scale L (inv (e.cells p)) e w b
        ∙ ap (λ k. scale O w (inv k) (read e w b)) (sym (refine.lead_read L e w b p d c l))
