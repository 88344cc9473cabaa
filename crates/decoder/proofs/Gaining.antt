-- How many positions become known when rows are placed, counted row by row.
use Rattle.std.specs.Prelude.{◌≡◌, ◌≤◌, ◌<◌, ◌-◌, ◌%◌, ◌≢◌, ◌+◌ as ◌+ₙ◌}
use Rattle.words.specs.Words.{arith, ℕ, refl, ◌∙◌, sym, ap, suc, true, zero, None, false, Bool, Option, ap₂, dec_lt}
use Rattle.words.specs.Words.{zero-add}
use Rattle.decoder.specs.Field.{Ops, Laws}
use Rattle.decoder.specs.Model.{Row, State, Reduced, Rref, place, known}
use Rattle.decoder.specs.Receiver.{is_new, count_new}
use Rattle.decoder.specs.Table.{Line, Table, read, view, Echelon}
use Rattle.decoder.specs.TableSteps.{Leads, Places, total}
use Rattle.decoder.specs.Chain.{Chain, place_rows}
use Rattle.decoder.proofs.Counting.{count_more, known_grows}
use Rattle.decoder.proofs.Turns.{turns, turns_last, turn_rows}
use Rattle.decoder.proofs.Chain.{chain_rref, chain_before}
use Rattle.decoder.proofs.Combining.{reduced_cells}
use Rattle.decoder.proofs.Elimination as elimination
use Rattle.decoder.proofs.Refine as refine
use Rattle.decoder.proofs.Steps as steps

-- A count over the rows 0, 1, .. is the count over the window's positions, which has another order.
total_turns : (u : ℕ → ℕ) (n b : ℕ) → turns (λ p x. x +ₙ u p) n b 0 ≡ total (λ i. u (b +ₙ i)) n
unfolding turns total
total_turns u zero b = refl
total_turns u (suc n) b = turns_last (λ p x. x +ₙ u p) n b 0 ∙ ap (λ x. x +ₙ u (b +ₙ n)) (total_turns u n b)

total_same : (u v : ℕ → ℕ) (n : ℕ) → ((i : ℕ) → i < n → u i ≡ v i) → total u n ≡ total v n
unfolding total
total_same u v zero h = refl
total_same u v (suc n) h = ap₂ ◌+ₙ◌ (total_same u v n (λ i l. h i (omega arith))) (h n (omega arith))

total_new : {A : Type 0} (n : ℕ) (f g : ℕ → Option A) → total (λ i. is_new (f i) (g i)) n ≡ count_new n f g
unfolding total count_new
total_new zero f g = refl
total_new (suc n) f g = ap (λ x. x +ₙ is_new (f n) (g n)) (total_new n f g) ∙ sym (count_more n f g)

pub total-rows : {A : Type 0} (h : ℕ → ℕ) (w b : ℕ) (f g : ℕ → Option A) → ((i : ℕ) → i < w → h ((b +ₙ i) % w) ≡ is_new (f i) (g i))
    → total h w ≡ count_new w f g
total-rows h w b f g s =
    total_same h (λ i. h (0 +ₙ i)) w (λ i l. ap h (sym (zero-add i)))
    ∙ sym (total_turns h w 0)
    ∙ sym (turn_rows (λ r x. x +ₙ h r) (λ p q x. omega arith) w b 0)
    ∙ total_turns (λ p. h (p % w)) w b
    ∙ total_same (λ i. h ((b +ₙ i) % w)) (λ i. is_new (f i) (g i)) w s
    ∙ total_new w f g

module _ {O : Ops} (L : Laws O) where
  open O use {𝟘, 𝟙}

  -- A row joins the table.
  module _ (T T' : Table O) (b w p : ℕ) (e : Line O) (h : Echelon T b w) (f : Places T T' b w p e) (c : b ≤ p) (l : p < b +ₙ w) where
    -- A reduced row that leads with one, at `p`: the system is the model's with the row placed.
    pub place_line : Reduced (view T w b) (read e w b) → Leads e b p → e.cells p ≡ 𝟙
        → Echelon T' b w × (view T' w b ≡ place (view T w b) (read e w b))
    place_line r d o = (
      steps.places_echelon L T T' b w p e h f d o (λ q g m t. reduced_cells T e w b r q g m t) c,
      refine.view_place L T T' b w p e h f (free_at (T.has p) (λ t. d.here (reduced_cells T e w b r p c l t))) d c l,
    )
      where
        free_at : (t : Bool) → ¬ (t ≡ true) → t ≡ false
        free_at true n = absurd (n refl)
        free_at false n = refl

    -- The `i`th position of the window, `q`.
    module _ (i q : ℕ) (m : i < w) (at : b +ₙ i ≡ q) where
      -- A row that had a coefficient at `p` was not known: it had another than its own.
      pub was_open : T.has q ≡ true → q ≢ p → (T.line q).cells p ≢ 𝟘 → known (view T w b) i ≡ None
      was_open t n z = go (dec_lt q p)
        where
          go : Dec (q < p) → known (view T w b) i ≡ None
          go (yes k) = steps.known_open L T i w b q (w - suc i) at (omega arith) t p k l z
          go (no k) = absurd (z (h.zero-before q (omega arith) (omega arith) t p c (omega arith)))

  -- A chain of rows.
  module _ {n : ℕ} (S : State O n) (g : ℕ → Row O n) (f : Rref S) where
    chain_step : (k : ℕ) → Chain S g (suc k) → (i : ℕ) → known (place_rows g (suc k) S) i ≡ None → known (place_rows g k S) i ≡ None
    unfolding place_rows
    chain_step k c i =
        known_grows L (place_rows g k S) (place_rows g (suc k) S) (chain_rref L S g (suc k) f c)
        (λ x s. ((elimination.place_sat L (place_rows g k S) (g k) (c.reduced k (omega arith)) (c.leads k (omega arith)) x).0 s).0) i

    -- What is known stays known.
    pub chain_known : (k : ℕ) → Chain S g k → (i : ℕ) → known (place_rows g k S) i ≡ None → known S i ≡ None
    unfolding place_rows
    chain_known zero c i e = e
    chain_known (suc k) c i e = chain_known k (chain_before L S g k c) i (chain_step k c i e)
