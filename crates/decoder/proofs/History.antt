-- The receiver against its whole history: it accepts what some filling allows, and shows what all fillings agree on.
-- Index
--   shift_at
--   AddedAll: several equations at once
--   insert_all_added, advance_by_sat, advance_by_rref
--   Received: a packet is refused where no filling satisfies it with all accepted before
--   receive_follows, empty_rref, empty_sat, fresh_follows, faithful
--   satisfies_members: all packets of a list, each by itself
--   same_known: two receivers with one base whose accepted packets have the same fillings
--   known_advance_by, demand_3
use Rattle.std.specs.Prelude.{◌≡◌, ◌≤◌, ◌+◌, ◌-◌, ◌∷◌, ◌≢◌, ◌↔◌}
use Rattle.words.specs.Words.{arith, ℕ, List, refl, ◌∙◌, sym, ap, [], Some, suc, zero, None, subst, Option, map, zero-add}
use Rattle.words.specs.Words.{⊎_elim, suc-add}
use mathlib.Core.Logic.Iff
use mathlib.Core.List.Memᴰ
use mathlib.Core.List.{Memᴰ}
use Rattle.decoder.specs.Field.{Ops, Laws}
use Rattle.decoder.specs.Model.{tail, ext, Filling, Row, eval, symbol, State, end, free, pivot, extend, Sat, Rref, insert, known, advance}
use Rattle.decoder.specs.Receiver.{shift, and_then, Packet, Hold, Satisfies, SatisfiesAll, embed, over, Receiver, empty, fresh, advance_by, insert_all}
use Rattle.decoder.specs.Receiver.{rise, receive, Fitting, Accepted, Log, opened, answered, called, run}
use Rattle.decoder.specs.Promises.{Follows, Faithful, Demand3, Locates}
use Rattle.decoder.proofs.Linear as lin
use Rattle.decoder.proofs.Elimination as elimination

shift-add : {A : Type 0} (b d : ℕ) (x : ℕ → A) → shift (b + d) x ≡ shift d (shift b x)
shift-add zero d x = rw zero-add
shift-add (suc b) d x = rw suc-add (shift-add b d (tail x))

pub shift_at : {A : Type 0} (d i : ℕ) (x : ℕ → A) → shift d x i ≡ x (d + i)
shift_at zero i x = rw zero-add
shift_at (suc d) i x = rw suc-add (shift_at d i (tail x))

module _ {O : Ops} (L : Laws O) where
  open O use {Sym, ◌⊕◌, ◌•◌, null}

  infixl 50 ◌⊕◌
  infixr 60 ◌•◌
  eval_embed : (w d m : ℕ) (e : Row O m) (x : Filling O) → d + m ≤ w → eval O w (embed O w d m e) x ≡ eval O m e (shift d x)
  unfolding eval embed symbol
  eval_embed zero d zero e x h = refl
  eval_embed zero d (suc m) e x h = absurd (omega arith)
  eval_embed (suc w) zero zero e x h = elimination.eval_zero L w _ x refl ∙ eval_embed w zero zero e (tail x) (omega arith)
  eval_embed (suc w) zero (suc m) e x h = ap (λ v. e.0 • x 0 ⊕ v) (eval_embed w zero m e.1 (tail x) (omega arith))
  eval_embed (suc w) (suc d) m e x h = elimination.eval_zero L w _ x refl ∙ eval_embed w d m e (tail x) (omega arith)

  hold_embed : (w d m : ℕ) (es : List (Row O m)) (x : Filling O) → d + m ≤ w
      → Hold O w (map (embed O w d m) es) x ↔ Hold O m es (shift d x)
  hold_embed w d m [] x h = Iff.rfl
  hold_embed w d m (e ∷ es) x h = Iff.and (rw (eval_embed w d m e x h) Iff.rfl) (hold_embed w d m es x h)

  -- Several equations at once.
  abbrev pub AddedAll : {n : ℕ} → State O n → List (Row O n) → Option (State O n) → Type 0
  AddedAll {n} S es None = (x : Filling O) → Sat S x → ¬ Hold O n es x
  AddedAll {n} S es (Some S') = Rref S' × ((x : Filling O) → Sat S' x ↔ (Sat S x × Hold O n es x))

  pub insert_all_added : {n : ℕ} (es : List (Row O n)) (S : State O n) → Rref S → AddedAll S es (insert_all es S)
  unfolding insert_all
  insert_all_added [] S f = (f, λ x. ((λ s. (s, tt)), (λ s. s.0)))
  insert_all_added {n} (e ∷ es) S f = go (insert S e) (elimination.insert_added L S e f) (insert_all_added es)
    where
      rest : (S S' : State O n) → ((x : Filling O) → Sat S' x ↔ (Sat S x × (eval O n e x ≡ null)))
          → (o : Option (State O n)) → AddedAll S' es o → AddedAll S (e ∷ es) o
      rest S S' a None h = λ x s q. h x ((a x).1 (s, q.0)) q.1
      rest S S' a (Some S'') h = (
        h.0,
        λ x. (
          (λ s. let t = (h.1 x).0 s in let u = (a x).0 t.0 in (u.0, (u.1, t.1))),
          (λ t. (h.1 x).1 ((a x).1 (t.0, t.1.0), t.1.1)),
        ),
      )

      go : (o : Option (State O n)) → elimination.Added L S e o → ((S' : State O n) → Rref S' → AddedAll S' es (insert_all es S'))
          → AddedAll S (e ∷ es) (and_then o (λ S'. insert_all es S'))
      go None h ih = λ x s q. h x s q.0
      go (Some S') h ih = rest S S' h.1 (insert_all es S') (ih S' h.0)

  pub advance_by_sat : {n : ℕ} (d : ℕ) (S : State O n) (y : Filling O) → Sat (advance_by d S) y ↔ ((x : Filling O) × Sat S x × (shift d x ≡ y))
  unfolding advance_by
  advance_by_sat zero S y = ((λ s. (y, s, refl)), (λ t. subst (λ z. Sat S z) t.2 t.1))
  advance_by_sat (suc d) S y =
      let ih = advance_by_sat d (advance S) y in (
        (λ s.
            let (z, u, p) = ih.0 s in
            let (x, v, q) = (elimination.advance_sat L S z).0 u in
            (x, v, ap (shift d) q ∙ p)),
        (λ t. ih.1 (tail t.0, (elimination.advance_sat L S (tail t.0)).1 (t.0, t.1, refl), t.2)),
      )

  pub advance_by_rref : {n : ℕ} (d : ℕ) (S : State O n) → Rref S → Rref (advance_by d S)
  unfolding advance_by
  advance_by_rref zero S f = f
  advance_by_rref (suc d) S f = advance_by_rref d (advance S) (elimination.advance_rref L S f)

  -- The system still describes the history when the window has moved on.
  advance_follows : {w : ℕ} (A : List (Packet O)) (r : Receiver O w) (d : ℕ) → Follows A r
      → Follows A (record { base = r.base + d; window = advance_by d r.window })
  advance_follows A r d h = record {
    rref = advance_by_rref d r.window h.rref;
    sound = λ f a. (advance_by_sat d r.window _).1 (shift r.base f, h.sound f a, sym (shift-add r.base d f));
    complete = λ y s.
        let (x, t, p) = (advance_by_sat d r.window y).0 s in
        let (f, a, q) = h.complete x t in
        (f, a, shift-add r.base d f ∙ ap (shift d) q ∙ p);
  }

  -- A packet is refused where no filling satisfies it with all accepted before; else the receiver follows it too.
  abbrev pub Received : {w : ℕ} → List (Packet O) → Packet O → Option (Receiver O w) → Type 0
  Received A p None = (f : Filling O) → SatisfiesAll O A f → ¬ Satisfies O p f
  Received A p (Some r) = Follows (p ∷ A) r

  -- The packet over the window, which fits it.
  satisfies_embed : (w b : ℕ) (p : Packet O) (f : Filling O) → b ≤ p.first → p.first + p.count ≤ b + w
      → Hold O w (over O w b p) (shift b f) ↔ Satisfies O p f
  satisfies_embed w b p f h g =
      let e : b + (p.first - b) ≡ p.first = omega arith in
      subst (λ x. Hold O w (over O w b p) (shift b f) ↔ Hold O p.count p.rows x)
      (sym (shift-add b (p.first - b) f) ∙ ap (λ n. shift n f) e)
      (hold_embed w (p.first - b) p.count p.rows (shift b f) (omega arith))

  insert_follows : {w : ℕ} (A : List (Packet O)) (r : Receiver O w) (p : Packet O) → Follows A r
      → r.base ≤ p.first → p.first + p.count ≤ r.base + w
      → (o : Option (State O w)) → AddedAll r.window (over O w r.base p) o
      → Received A p (and_then o (λ S. Some (record { base = r.base; window = S })))
  insert_follows {w} A r p h b g None a = λ f s q. a (shift r.base f) (h.sound f s) ((satisfies_embed w r.base p f b g).1 q)
  insert_follows {w} A r p h b g (Some S) a = record {
    rref = a.0;
    sound = λ f s. (a.1 _).1 (h.sound f s.1, (satisfies_embed w r.base p f b g).1 s.0);
    complete = λ x s.
        let (t, q) = (a.1 x).0 s in
        let (f, u, e) = h.complete x t in
        (f, ((satisfies_embed w r.base p f b g).0 (subst (λ z. Hold O w (over O w r.base p) z) (sym e) q), u), e);
  }

  pub receive_follows : {w : ℕ} (A : List (Packet O)) (r : Receiver O w) (p : Packet O) → Follows A r → Fitting r p
      → Received A p (receive r p)
  unfolding receive rise
  receive_follows {w} A r p h (behind, long) =
      let d : ℕ = (p.first + p.count) - (r.base + w) in
      let r' : Receiver O w = record { base = r.base + d; window = advance_by d r.window } in
      let h' = advance_follows A r d h in
      insert_follows A r' p h' (omega arith) (omega arith)
      (insert_all (over O w r'.base p) r'.window) (insert_all_added (over O w r'.base p) r'.window h'.rref)

  pub empty_rref : (w : ℕ) → Rref (empty O w)
  unfolding empty
  empty_rref zero = tt
  empty_rref (suc w) = empty_rref w

  pub empty_sat : (w : ℕ) (x : Filling O) → Sat (empty O w) x
  unfolding empty
  empty_sat zero x = tt
  empty_sat (suc w) x = empty_sat w (tail x)

  -- A filling with symbols for the positions before the base.
  preceded : ℕ → Filling O → Filling O
  preceded zero x = x
  preceded (suc b) x = ext null (preceded b x)

  shift_preceded : (b : ℕ) (x : Filling O) → shift b (preceded b x) ≡ x
  unfolding preceded
  shift_preceded zero x = refl
  shift_preceded (suc b) x = shift_preceded b x

  pub fresh_follows : (w b : ℕ) → Follows [] (fresh O w b)
  fresh_follows w b = record {
    rref = empty_rref w;
    sound = λ f _. empty_sat w (shift b f);
    complete = λ x _. (preceded b x, tt, shift_preceded b x);
  }

  pub faithful : {w : ℕ} (A : List (Packet O)) (r : Receiver O w) → Follows A r → Faithful A r
  faithful A r h = record {
    filling =
        let S = r.window in
        let (f, a, _) = h.complete (elimination.solution L S) (elimination.solution_sat L S) in
        (f, a);
    shown = shown;
    hidden = hidden;
    exactly = λ i. agreed i (known r.window i) refl;
  }
    where
      at : (i : ℕ) (f x : Filling O) → shift r.base f ≡ x → x i ≡ f (r.base + i)
      at i f x e = sym (ap (λ z. z i) e) ∙ shift_at r.base i f

      shown : (i : ℕ) (v : Sym) → known r.window i ≡ Some v → (f : Filling O) → SatisfiesAll O A f → f (r.base + i) ≡ v
      shown i v k f a = sym (shift_at r.base i f) ∙ elimination.known_sound L r.window i v k (shift r.base f) (h.sound f a)

      hidden : (i : ℕ) → known r.window i ≡ None
          → (f g : Filling O) × SatisfiesAll O A f × SatisfiesAll O A g × (f (r.base + i) ≢ g (r.base + i))
      hidden i k =
          let (x, y, s, t, q) = elimination.known_complete L r.window i h.rref k in
          let (f, a, e) = h.complete x s in
          let (g, b, e') = h.complete y t in
          (f, g, a, b, λ z. q (at i f x e ∙ z ∙ sym (at i g y e')))

      agreed : (i : ℕ) (o : Option Sym) → known r.window i ≡ o
          → Accepted o ↔ ((f g : Filling O) → SatisfiesAll O A f → SatisfiesAll O A g → f (r.base + i) ≡ g (r.base + i))
      agreed i None k = ((λ x. absurd x), (λ a. let (f, g, s, t, q) = hidden i k in q (a f g s t)))
      agreed i (Some v) k = ((λ _ f g s t. shown i v k f s ∙ sym (shown i v k g t)), (λ _. tt))

  -- All packets of a list, each by itself: the order is nothing to it.
  pub satisfies_members : (A : List (Packet O)) (f : Filling O)
      → SatisfiesAll O A f ↔ ((p : Packet O) → Memᴰ p A → Satisfies O p f)
  satisfies_members [] f = ((λ _ p m. absurd (Memᴰ.not-nil m)), (λ _. tt))
  satisfies_members (q ∷ A) f =
      let ih = satisfies_members A f in (
        (λ s p m.
            ⊎_elim (λ e. subst (λ z. Satisfies O z f) (sym e) s.0) (λ m'. ih.0 s.1 p m') (Memᴰ.cases_cons m)),
        (λ a. (a q (Memᴰ.head refl), ih.1 (λ p m. a p (Memᴰ.tail m)))),
      )

  -- Two receivers with one base whose accepted packets have the same fillings, in whatever order they came, show the same.
  pub same_known : {w : ℕ} (A B : List (Packet O)) (r s : Receiver O w) → Faithful A r → Faithful B s → r.base ≡ s.base
      → ((f : Filling O) → SatisfiesAll O A f ↔ SatisfiesAll O B f) → (i : ℕ) → known r.window i ≡ known s.window i
  same_known A B r s g h e t i = go (known r.window i) (known s.window i) refl refl
    where
      at : (f : Filling O) → f (r.base + i) ≡ f (s.base + i)
      at f = ap (λ b. f (b + i)) e

      go : (o o' : Option Sym) → known r.window i ≡ o → known s.window i ≡ o' → o ≡ o'
      go None None k l = refl
      go None (Some v) k l =
          let (x, y, a, b, q) = g.hidden i k in
          absurd (q (at x ∙ h.shown i v l x ((t x).0 a) ∙ sym (at y ∙ h.shown i v l y ((t y).0 b))))
      go (Some u) None k l =
          let (x, y, a, b, q) = h.hidden i l in
          absurd (q (sym (at x) ∙ g.shown i u k x ((t x).1 a) ∙ sym (sym (at y) ∙ g.shown i u k y ((t y).1 b))))
      go (Some u) (Some v) k l =
          let (f, a) = g.filling in
          ap Some (sym (g.shown i u k f a) ∙ at f ∙ h.shown i v l f ((t f).0 a))

  -- The window moves on and knows what it knew.

  known-extend : {n : ℕ} (S : State O n) (i : ℕ) → known (extend S) i ≡ known S i
  unfolding extend known
  known-extend end zero = refl
  known-extend end (suc i) = refl
  known-extend (free S) zero = refl
  known-extend (free S) (suc i) = known-extend S i
  known-extend (pivot {n} r S) zero = rw (lin.lead_push O L, lin.symbol_push O L)
  known-extend (pivot r S) (suc i) = known-extend S i

  known_advance : {n : ℕ} (S : State O n) (i : ℕ) → known (advance S) i ≡ known S (suc i)
  unfolding advance known
  known_advance end i = refl
  known_advance (free S) i = known-extend S i
  known_advance (pivot r S) i = known-extend S i

  pub known_advance_by : {n : ℕ} (d : ℕ) (S : State O n) (i : ℕ) → known (advance_by d S) i ≡ known S (d + i)
  unfolding advance_by
  known_advance_by zero S i = rw zero-add
  known_advance_by (suc d) S i = known_advance_by d (advance S) i ∙ known_advance S (d + i) ∙ ap (known S) (sym (suc-add d i))

  abbrev Kept : {w : ℕ} → Log O w → Type 0
  Kept l = Follows l.accepted l.receiver

  kept_demand : {w : ℕ} (l : Log O w) → Kept l → Demand3 l
  kept_demand {w} l h = record {
    follows = h;
    answers = faithful l.accepted l.receiver h;
    verdict = λ p d. go p (receive l.receiver p) (receive_follows l.accepted l.receiver p h d);
  }
    where
      go : (p : Packet O) (o : Option (Receiver O w)) → Received l.accepted p o
          → Accepted o ↔ ((f : Filling O) × Satisfies O p f × SatisfiesAll O l.accepted f)
      go p None k = ((λ a. absurd a), (λ (f, s, t). k f t s))
      go p (Some r) k = ((λ _. let (f, s) = (faithful (p ∷ l.accepted) r k).filling in (f, s.0, s.1)), (λ _. tt))

  called_kept : {w : ℕ} (l : Log O w) (o : Option (Packet O)) → ((p : Packet O) → o ≡ Some p → Fitting l.receiver p) → Kept l
      → Kept (called l o)
  called_kept l None g h = h
  called_kept {w} l (Some p) g h =
      go (receive l.receiver p) (receive_follows l.accepted l.receiver p h (g p refl))
    where
      go : (o : Option (Receiver O w)) → Received l.accepted p o → Kept (answered l p o)
      go None _ = h
      go (Some r) k = k

  -- A list of calls.
  module _ {w : ℕ} {Call : Type 0} (locate : Call → ℕ → Option (Packet O)) (placed : Locates w locate) where
    run_kept : (cs : List Call) (l : Log O w) → Kept l → Kept (run locate l cs)
    run_kept [] l h = h
    run_kept (c ∷ cs) l h =
        run_kept cs (called l (locate c l.receiver.base))
        (called_kept l (locate c l.receiver.base) (placed c l.receiver.base) h)

    pub demand_3 : (b : ℕ) (cs : List Call) → Demand3 (run locate (opened O w b) cs)
    demand_3 b cs = kept_demand (run locate (opened O w b) cs) (run_kept cs (opened O w b) (fresh_follows w b))
