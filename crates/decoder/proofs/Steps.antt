-- What each step of the receiver does to the table, as a whole: place a row, move the base on, look a symbol up.
use Rattle.std.specs.Prelude.{◌≡◌, ◌≤◌, ◌<◌, ◌≢◌, ◌+◌ as ◌+ₙ◌}
use Rattle.words.specs.Words.{arith, ℕ, refl, ◌∙◌, sym, ap, Some, suc, true, zero, None, false, Bool, ap₂, ℕ_discrete}
use Rattle.words.specs.Words.{dec_lt, true≢false}
use Rattle.decoder.specs.Field.{Ops, Laws}
use Rattle.decoder.specs.Model.{Row, State, lead, symbol, known}
use Rattle.decoder.specs.Table.{Line, Table, read, slot, view, Echelon}
use Rattle.decoder.specs.TableSteps.{add_line, scale_line, Leads, Places, Moves}
use Rattle.decoder.proofs.Linear as lin
use Rattle.decoder.proofs.Refine as refine

module _ {O : Ops} (L : Laws O) where
  open O use {𝟘, 𝟙, ◌+◌, ◌*◌, inv, zero?}
  open L use {+-𝟘, *-comm, *-𝟘, *-inv, 𝟙≢𝟘}

  infixl 50 ◌+◌
  infixl 60 ◌*◌
  pub symbol_read : (e : Line O) (n q : ℕ) → symbol O n (read e n q) ≡ e.sym
  unfolding symbol read
  symbol_read e zero q = refl
  symbol_read e (suc n) q = symbol_read e n (suc q)

  pub leads_scaled : (e : Line O) (q p : ℕ) → Leads e q p → Leads (scale_line (inv (e.cells p)) e) q p
  unfolding scale_line
  leads_scaled e q p d = record {
    below = λ j g l. ap (λ a. inv (e.cells p) * a) (d.below j g l) ∙ *-𝟘 _;
    here = λ z. 𝟙≢𝟘 (sym (*-inv (e.cells p) d.here) ∙ z);
  }

  -- The table stays in echelon form.

  pub places_echelon : (T T' : Table O) (b w p : ℕ) (e : Line O) → Echelon T b w → Places T T' b w p e → Leads e b p → e.cells p ≡ 𝟙
      → ((q : ℕ) → b ≤ q → q < b +ₙ w → T.has q ≡ true → e.cells q ≡ 𝟘) → b ≤ p → Echelon T' b w
  unfolding add_line
  places_echelon T T' b w p e h f d o r g = record {
    one_at = λ q. one q (ℕ_discrete q p);
    zero-before = λ q. before q (ℕ_discrete q p);
  }
    where
      was : (q : ℕ) → b ≤ q → q < b +ₙ w → q ≢ p → T'.has q ≡ true → T.has q ≡ true
      was q c l x t = sym (f.has_old q c l x) ∙ t

      one : (q : ℕ) → Dec (q ≡ p) → b ≤ q → q < b +ₙ w → T'.has q ≡ true → (T'.line q).cells q ≡ 𝟙
      one q (yes x) c l t = ap (λ y. y.cells q) (ap T'.line x ∙ f.line_new) ∙ ap e.cells x ∙ o
      one q (no x) c l t =
          ap (λ y. y.cells q) (f.line_old q c l x (was q c l x t))
          ∙ refine.add-zero L _ _ (e.cells q) (r q c l (was q c l x t)) ∙ h.one_at q c l (was q c l x t)

      cleared : (q : ℕ) → b ≤ q → q < b +ₙ w → T.has q ≡ true → (j : ℕ) → b ≤ j → j < q → Dec (j < p) → (T.line q).cells p * e.cells j ≡ 𝟘
      cleared q c l t j k m (yes y) = ap (λ a. (T.line q).cells p * a) (d.below j k y) ∙ *-𝟘 _
      cleared q c l t j k m (no y) =
          ap (λ a. a * e.cells j) (h.zero-before q c l t p g (omega arith)) ∙ *-comm 𝟘 _ ∙ *-𝟘 _

      before : (q : ℕ) → Dec (q ≡ p) → b ≤ q → q < b +ₙ w → T'.has q ≡ true → (j : ℕ) → b ≤ j → j < q → (T'.line q).cells j ≡ 𝟘
      before q (yes x) c l t j k m = ap (λ y. y.cells j) (ap T'.line x ∙ f.line_new) ∙ d.below j k (omega arith)
      before q (no x) c l t j k m =
          let u = was q c l x t in
          ap (λ y. y.cells j) (f.line_old q c l x u)
          ∙ ap₂ ◌+◌ (h.zero-before q c l u j k m) (cleared q c l u j k m (dec_lt j p)) ∙ +-𝟘 𝟘

  pub moves_echelon : (T T' : Table O) (b w : ℕ) → Echelon T b w → Moves T T' b w → Echelon T' (suc b) w
  moves_echelon T T' b w h f = record {
    one_at = λ q c l t. one q (ℕ_discrete q (b +ₙ w)) c l t;
    zero-before = λ q c l t j k m. before q (ℕ_discrete q (b +ₙ w)) c l t j k m;
  }
    where
      one : (q : ℕ) → Dec (q ≡ b +ₙ w) → suc b ≤ q → q < suc b +ₙ w → T'.has q ≡ true → (T'.line q).cells q ≡ 𝟙
      one q (yes x) c l t = absurd (true≢false (sym t ∙ ap T'.has x ∙ f.has_last))
      one q (no x) c l t =
          let u : T.has q ≡ true = sym (f.has_kept q c (omega arith)) ∙ t in
          ap (λ y. y.cells q) (f.line_kept q c (omega arith) u) ∙ h.one_at q (omega arith) (omega arith) u

      before : (q : ℕ) → Dec (q ≡ b +ₙ w) → suc b ≤ q → q < suc b +ₙ w → T'.has q ≡ true
          → (j : ℕ) → suc b ≤ j → j < q → (T'.line q).cells j ≡ 𝟘
      before q (yes x) c l t j k m = absurd (true≢false (sym t ∙ ap T'.has x ∙ f.has_last))
      before q (no x) c l t j k m =
          let u : T.has q ≡ true = sym (f.has_kept q c (omega arith)) ∙ t in
          ap (λ y. y.cells j) (f.line_kept q c (omega arith) u) ∙ h.zero-before q (omega arith) (omega arith) u j (omega arith) m

  -- Looking a symbol up: the row at its position has no other coefficient in the window.

  lead_nonzero : (e : Line O) (n q j : ℕ) → q ≤ j → j < q +ₙ n → e.cells j ≢ 𝟘 → lead O n (read e n q) ≢ 𝟘
  unfolding read
  lead_nonzero e zero q j g l z = absurd (omega arith)
  lead_nonzero e (suc n) q j g l z = go (zero? (e.cells q)) (λ g'. lead_nonzero e n (suc q) j g' (omega arith) z)
    where
      go : Dec (e.cells q ≡ 𝟘) → (suc q ≤ j → lead O n (read e n (suc q)) ≢ 𝟘) → lead O (suc n) (read e (suc n) q) ≢ 𝟘
      go (yes y) ih x =
          ih (let c : q ≢ j = (λ c. z (ap e.cells (sym c) ∙ y)) in omega arith) (sym (lin.lead_later O L n (read e (suc n) q) y) ∙ x)
      go (no y) ih x = y (sym (lin.lead_here O L n (read e (suc n) q) y) ∙ x)

  module _ (T : Table O) where
    known_later : {n : ℕ} (i : ℕ) (t : Bool) (r : Row O n) (S : State O n) → known (slot t r S) (suc i) ≡ known S i
    unfolding slot known
    known_later i true r S = refl
    known_later i false r S = refl

    known_view : (i n q p m : ℕ) → q +ₙ i ≡ p → i +ₙ suc m ≡ n → known (view T n q) i ≡ known (view T (suc m) p) 0
    unfolding view
    known_view zero n q p m e f =
        let x : n ≡ suc m = omega arith in
        let y : q ≡ p = omega arith in
        ap₂ (λ n q. known (view T n q) 0) x y
    known_view (suc i) zero q p m e f = absurd (omega arith)
    known_view (suc i) (suc n) q p m e f =
        known_later i (T.has q) (read (T.line q) n (suc q)) (view T n (suc q)) ∙ known_view i n (suc q) p m (omega arith) (omega arith)

    -- The position `p = q + i` of a window from `q` on, with `m` more after it.
    module _ (i n q p m : ℕ) (e : q +ₙ i ≡ p) (f : i +ₙ suc m ≡ n) where
      pub known_slot : (t : Bool) → T.has p ≡ t → known (view T n q) i ≡ known (slot t (read (T.line p) m (suc p)) (view T m (suc p))) 0
      unfolding view
      known_slot t h = known_view i n q p m e f ∙ ap (λ y. known (slot y (read (T.line p) m (suc p)) (view T m (suc p))) 0) h

      pub known-row : T.has p ≡ true → ((j : ℕ) → p < j → j < q +ₙ n → (T.line p).cells j ≡ 𝟘) → known (view T n q) i ≡ Some (T.line p).sym
      unfolding slot known
      known-row h z =
          known_slot true h
          ∙ lin.only_if_holds (zero? _) _ (refine.lead_none L (T.line p) m (suc p) (λ j g l. z j g (omega arith)))
          ∙ ap Some (symbol_read (T.line p) m (suc p))

      pub known_open : T.has p ≡ true → (j : ℕ) → p < j → j < q +ₙ n → (T.line p).cells j ≢ 𝟘 → known (view T n q) i ≡ None
      unfolding slot known
      known_open h j g l z =
          known_slot true h ∙ lin.only_if_fails (zero? _) _ (lead_nonzero (T.line p) m (suc p) j g (omega arith) z)

      pub known_free : T.has p ≡ false → known (view T n q) i ≡ None
      unfolding slot known
      known_free h = known_slot false h
