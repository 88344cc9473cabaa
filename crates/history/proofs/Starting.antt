-- The model's marks are the history's starts.
-- Index
--   Sees: what is seen from the base on is what is known there, with the bytes of every filling
--   shown-value, shown-whole, unseen, shows_held, held_shows
--   shows_inside: all symbols that are shown lie in the window
--   seen-outside: nothing is known past the window
--   start_spanned
--   AreStarts: the marks M are the starts after the packets qs
--   starts-after
--   MarksTrack: the marks follow the history
--   fresh_marks
--   tracks_sees: a window that says what the packets say sees what is known
--   marking_tracks: the marks after a call, whose packet begins at e, follow the history after it
use Rattle.std.specs.Prelude.{◌≡◌, ◌≤◌, ◌+◌, ◌<◌, ◌-◌, ◌∷◌, ◌↔◌, ◌⊎◌}
use Rattle.words.specs.Words.{arith, ℕ, List, length, refl, ◌∙◌, sym, ap, [], Some, suc, true, None, subst, Option}
use Rattle.words.specs.Words.{some-injective, none-ne-some, dec_lt, inr, true≢false, inl, add-suc, add_assoc}
use Rattle.wire.specs.declared.Setting.{Setting}
use Rattle.memory.specs.Number.{Bytes}
use Rattle.memory.proofs.Parts.{cons-eq}
use Rattle.decoder.specs.Bytes.{Coded}
use Rattle.decoder.specs.Model.{known}
use Rattle.starts.specs.Adu.{View, needs}
use Rattle.starts.specs.Starts.{Starts, nowhere, also, moved, pass, shown, seen}
use Rattle.starts.proofs.Tests.{also_true, moved_true}
use Rattle.starts.specs.Settled.{Reaches, seed, next}
use Rattle.starts.proofs.Chaining.{pass_reaches}
use Rattle.starts.proofs.Unseen.{known_past}
use Rattle.starts.proofs.Handing.{Shows}
use Rattle.history.specs.Symbol.{Symbol, bytes_of, symbol_of}
use Rattle.history.specs.History.{Filling, symbols_at, Located, source, repair, first, named, All, Consistent, Known, Reading, fails, located, base_for}
use Rattle.history.specs.History.{Log, fresh, raised, base_of, logged, Spanned, MarkedBy, Reached, already, later, Start}
use Rattle.history.specs.Model.{Joined, State, found_by, Outcome, refused, done, said_of, state_after, responds, naming, starts_after, marking}
use Rattle.history.proofs.Says.{Whole, symbol_bytes, bytes_whole, head, rest}
use Rattle.history.proofs.Answers.{Tracks, TracksFrom, Passes, known_exactly, known-value, tracks_consistent, judged}
use Rattle.decoder.specs.Model as model
use Rattle.decoder.specs.Receiver as decoder

-- What is seen from the base on is what is known there, with the bytes of every filling.
pub record Sees (E : ℕ) (qs : List Located) (base : ℕ) (see : View) : Type 0 where
  pub filling : Consistent E qs
  pub shown : (i : ℕ) → Known E qs (base + i) → (f : Filling E) → All E qs f → see i ≡ Some (bytes_of E (f (base + i)))
  pub is_known : (i : ℕ) (v : List ℕ) → see i ≡ Some v → Known E qs (base + i)

-- Symbols that are shown are those of every filling.
module _ (E : ℕ) (qs : List Located) (base : ℕ) (see : View) (sees : Sees E qs base see) where
  pub shown-value : (i : ℕ) (v : List ℕ) → see i ≡ Some v → (f : Filling E) → All E qs f → bytes_of E (f (base + i)) ≡ v
  shown-value i v h f a = some-injective _ _ (sym (sees.shown i (sees.is_known i v h) f a) ∙ h)

  pub shown-whole : (i : ℕ) (v : List ℕ) → see i ≡ Some v → (length v ≡ E) × Bytes v
  shown-whole i v h =
      let (f, a) = sees.filling in
      let w = subst (Whole E) (shown-value i v h f a) (bytes_whole E (f (base + i))) in
      (w.sized, w.small)

  pub unseen : (i : ℕ) → ¬ Known E qs (base + i) → see i ≡ None
  unseen i n = go (see i) refl
    where
      go : (o : Option (List ℕ)) → see i ≡ o → o ≡ None
      go None e = refl
      go (Some v) e = absurd (n (sees.is_known i v e))

  pub shows_held : (i : ℕ) (vs : List (List ℕ)) → Shows see i vs → (f : Filling E) → All E qs f → symbols_at E f (base + i) (length vs) ≡ vs
  shows_held i [] h f a = refl
  shows_held i (v ∷ vs) h f a =
      cons-eq (shown-value i v h.0 f a)
      (ap (λ p. symbols_at E f p (length vs)) (sym (add-suc base i)) ∙ shows_held (suc i) vs h.1 f a)

  pub held_shows : (i : ℕ) (vs : List (List ℕ)) → ((f : Filling E) → All E qs f → symbols_at E f (base + i) (length vs) ≡ vs) → Shows see i vs
  held_shows i [] h = tt
  held_shows i (v ∷ vs) h =
      let here : (f : Filling E) → All E qs f → bytes_of E (f (base + i)) ≡ v = λ f a. ap head (h f a) in
      let same : Known E qs (base + i) =
      λ f g a b. sym (symbol_bytes E (f (base + i))) ∙ ap (symbol_of E) (here f a ∙ sym (here g b)) ∙ symbol_bytes E (g (base + i)) in
      let (f, a) = sees.filling in (
        sees.shown i same f a ∙ ap (λ (x : List ℕ). Some x) (here f a),
        held_shows (suc i) vs (λ g b. ap (λ p. symbols_at E g p (length vs)) (add-suc base i) ∙ ap rest (h g b)),
      )

  -- All symbols that are shown lie in the window.
  pub shows_inside : (width : ℕ) → ((i : ℕ) → width ≤ i → see i ≡ None) → (i : ℕ) → i ≤ width → (vs : List (List ℕ)) → Shows see i vs
      → i + length vs ≤ width
  shows_inside width outside i l [] h = omega arith
  shows_inside width outside i l (v ∷ vs) h = go (dec_lt i width) (λ k. shows_inside width outside (suc i) k vs h.1)
    where
      go : Dec (i < width) → (i < width → suc i + length vs ≤ width) → i + suc (length vs) ≤ width
      go (yes k) f = omega (arith, f k)
      go (no k) f = absurd (none-ne-some v (sym (outside i (omega arith)) ∙ h.0))

-- Nothing is known past the window.
pub seen-outside : (E width : ℕ) (S : model.State (Coded E) width) (i : ℕ) → width ≤ i → seen E width S i ≡ None
seen-outside E width S i h = ap (shown E) (known_past S i h)

module _ (s : Setting) where
  open s use {size as E, width}

  -- A start lies in the span.
  reached_spanned : (qs : List Located) (b : ℕ) (A : ℕ → Type 0) {p : ℕ} → Reached s qs b A p → Spanned s b p
  reached_spanned qs b A (already a h) = h
  reached_spanned qs b A (later r l k f a h) = h

  pub start_spanned : (qs : List Located) (e p : ℕ) → Start s qs p → Spanned s (base_for (base_of s qs) e) p
  start_spanned [] e p h = absurd h
  start_spanned (q ∷ qs) e p h = reached_spanned (q ∷ qs) _ _ h

  -- The marks M are the starts after the packets qs.
  abbrev pub AreStarts : List Located → (base : ℕ) → Starts → Type 0
  AreStarts qs base M = (i : ℕ) → i ≤ width → (M i ≡ true) ↔ Start s qs (base + i)

  -- A packet q that fits is accepted after the packets qs, and the base rises from b to b'.
  module _ (some_bytes : 0 < E) (q : Located) (qs : List Located) (b b' : ℕ) (eb : b ≡ base_for (base_of s qs) (first q))
      (eb' : b' ≡ raised s (base_of s qs) q) (ahead : b ≤ first q) (short : named q ≤ width) (M : Starts) (starts : AreStarts qs b M) (see : View)
      (sees : Sees E (q ∷ qs) b' see) where
    abbrev A : ℕ → Type 0
    A x = Start s qs x ⊎ MarkedBy s q x

    abbrev N : Starts
    N = naming s b' q (moved width (b' - b) M)

    -- Marks that stay.
    stay : (j : ℕ) → moved width (b' - b) M j ≡ true → Start s qs (b' + j)
    stay j h =
        let (l, m) = (moved_true width (b' - b) M j).0 h in
        let e : b + (b' - b + j) ≡ b' + j = omega (arith, eb, eb') in
        subst (Start s qs) e ((starts (b' - b + j) l).0 m)

    stayed : (p : ℕ) → Spanned s b' p → Start s qs p → moved width (b' - b) M (p - b') ≡ true
    stayed p sp h =
        let sq = start_spanned qs (first q) p h in
        let l : b' - b + (p - b') ≤ width = omega (arith, eb, eb', sp.low, sq.high) in
        let e : p ≡ b + (b' - b + (p - b')) = omega (arith, eb, eb', sp.low, sq.low) in
        (moved_true width (b' - b) M (p - b')).1 (l, (starts (b' - b + (p - b')) l).1 (subst (Start s qs) e h))

    -- And those that the packet makes.
    made : (x : Located) → b' ≤ first x → (j : ℕ) → naming s b' x (moved width (b' - b) M) j ≡ true → Start s qs (b' + j) ⊎ MarkedBy s x (b' + j)
    made (source p vs) f j h = go ((also_true (p - b') (also (p + length vs - b') (moved width (b' - b) M)) j).0 h)
      where
        on : (j ≡ p + length vs - b') ⊎ (moved width (b' - b) M j ≡ true) → Start s qs (b' + j) ⊎ MarkedBy s (source p vs) (b' + j)
        on (inl e) = inr (inr (omega arith))
        on (inr k) = inl (stay j k)

        go : (j ≡ p - b') ⊎ (also (p + length vs - b') (moved width (b' - b) M) j ≡ true) → Start s qs (b' + j) ⊎ MarkedBy s (source p vs) (b' + j)
        go (inl e) = inr (inl (omega arith))
        go (inr k) = on ((also_true (p + length vs - b') (moved width (b' - b) M) j).0 k)
    made (repair p n cs vs) f j h = inl (stay j h)

    marked : (x : Located) (p : ℕ) → Spanned s b' p → Start s qs p ⊎ MarkedBy s x p → naming s b' x (moved width (b' - b) M) (p - b') ≡ true
    marked (source x vs) p sp (inl h) =
        (also_true (x - b') (also (x + length vs - b') (moved width (b' - b) M)) (p - b')).1
        (inr ((also_true (x + length vs - b') (moved width (b' - b) M) (p - b')).1 (inr (stayed p sp h))))
    marked (source x vs) p sp (inr (inl e)) =
        (also_true (x - b') (also (x + length vs - b') (moved width (b' - b) M)) (p - b')).1 (inl (ap (λ y. y - b') e))
    marked (source x vs) p sp (inr (inr e)) =
        (also_true (x - b') (also (x + length vs - b') (moved width (b' - b) M)) (p - b')).1
        (inr ((also_true (x + length vs - b') (moved width (b' - b) M) (p - b')).1 (inl (ap (λ y. y - b') e))))
    marked (repair x n cs vs) p sp (inl h) = stayed p sp h
    marked (repair x n cs vs) p sp (inr e) = absurd e

    spanned : (j : ℕ) → j ≤ width → Spanned s (raised s (base_of s qs) q) (b' + j)
    spanned j h = record { low = omega (arith, eb'); high = omega (arith, eb') }

    -- What the marks reach is what the starts reach.
    reaches : {j : ℕ} → Reaches E width see N j → j ≤ width → Start s (q ∷ qs) (b' + j)
    reaches {j} (seed h) l = already (made q (omega (arith, eb, eb')) j h) (spanned j l)
    reaches (next {i} {v} c k h) l =
        let (f, a) = sees.filling in
        let n = sees.is_known i v h in
        let e : bytes_of E (f (b' + i)) ≡ v = some-injective _ _ (sym (sees.shown i n f a) ∙ h) in
        let on : b' + i + needs E (bytes_of E (f (b' + i))) ≡ b' + (i + needs E v) = add_assoc b' i _ ∙ ap (λ x. b' + (i + needs E x)) e in
        subst (Start s (q ∷ qs)) on
        (later (reaches c (omega arith)) (omega (arith, eb')) n f a (subst (Spanned s (raised s (base_of s qs) q)) (sym on) (spanned (i + needs E v) l)))

    reached : {p : ℕ} → Reached s (q ∷ qs) (raised s (base_of s qs) q) A p → Reaches E width see N (p - b')
    reached {p} (already a sp) = seed (marked q p (subst (λ x. Spanned s x p) (sym eb') sp) a)
    reached (later {p} r l k f a sp) =
        let sr = reached_spanned (q ∷ qs) _ A r in
        let e : b' + (p - b') ≡ p = omega (arith, eb', sr.low) in
        let h : see (p - b') ≡ Some (bytes_of E (f p)) =
        sees.shown (p - b') (subst (Known E (q ∷ qs)) (sym e) k) f a ∙ ap (λ x. Some (bytes_of E (f x))) e in
        let on : p - b' + needs E (bytes_of E (f p)) ≡ p + needs E (bytes_of E (f p)) - b' = omega (arith, eb', sr.low) in
        subst (Reaches E width see N) on (next (reached r) (omega (arith, eb', sr.low)) h)

    pub starts-after : AreStarts (q ∷ qs) b' (pass E see width N)
    starts-after i l =
        let c = pass_reaches E see some_bytes width N i in
        let e : b' + i - b' ≡ i = omega arith in (
          (λ h. reaches (c.0 h) l),
          (λ r. c.1 (subst (Reaches E width see N) e (reached r))),
        )

-- ---- The model

module _ (s : Setting) (some_bytes : 0 < s.size) where
  open s use {size as E, width}

  -- The marks follow the history; before any base, wherever it will be.
  abbrev pub MarksTrack : Log → Starts → Type 0
  MarksTrack l M = (e : ℕ) → AreStarts s l (base_for (base_of s l) e) M

  pub fresh_marks : MarksTrack fresh nowhere
  fresh_marks = λ e i h. ((λ n. absurd (true≢false (sym n))), (λ n. absurd n))

  -- A window that says what the packets say sees what is known.
  pub tracks_sees : (qs : List Located) (t : Joined s) → TracksFrom s some_bytes qs t → Sees E qs t.base (seen E width t.window)
  tracks_sees qs t k = record {
    filling = tracks_consistent s some_bytes qs t k;
    shown = λ i n f a. value i (known t.window i) refl ((known_exactly s some_bytes qs t k i).1 n) f a;
    is_known = λ i v h. (known_exactly s some_bytes qs t k i).0 (there (known t.window i) v h);
  }
    where
      value : (i : ℕ) (o : Option (Symbol E)) → known t.window i ≡ o → decoder.Accepted o → (f : Filling E) → All E qs f
          → shown E o ≡ Some (bytes_of E (f (t.base + i)))
      value i None e n f a = absurd n
      value i (Some v) e n f a = ap (λ x. Some (bytes_of E x)) (sym (known-value s some_bytes qs t k i v e f a))

      there : (o : Option (Symbol E)) (v : List ℕ) → shown E o ≡ Some v → decoder.Accepted o
      there None v h = absurd (none-ne-some v h)
      there (Some x) v h = tt

  -- A packet that passes, and finds the receiver as t, is accepted.
  accepted : (l : Log) (t t' : Joined s) (q : Located) (M : Starts) → Passes s some_bytes l t.base q → base_of s (q ∷ l) ≡ Some t'.base
      → TracksFrom s some_bytes (q ∷ l) t' → MarksTrack l M → MarksTrack (q ∷ l) (starts_after s t t' q M)
  unfolding starts_after
  accepted l t t' q M (g, at) rose k' h =
      let b : raised s (base_of s l) q ≡ t'.base = some-injective _ _ rose in
      let there : AreStarts s (q ∷ l) t'.base (starts_after s t t' q M) =
      starts-after s some_bytes q l t.base t'.base (sym at) (sym b) g.ahead g.short M (subst (λ b. AreStarts s l b M) at (h (first q)))
      (seen E width t'.window) (tracks_sees (q ∷ l) t' k') in
      λ _. subst (λ b. AreStarts s (q ∷ l) b (starts_after s t t' q M)) (sym b) there

  -- The marks after a call, whose packet begins at e, follow the history after it.
  pub marking_tracks : (l : Log) (t : State s) (e : ℕ) (r : Reading) (M : Starts) → Tracks s some_bytes l t
      → let j = found_by s t e in
      ((q : Located) → r ≡ located q → Passes s some_bytes l j.base q)
      → MarksTrack l M → MarksTrack (logged s l r (said_of (responds s j r))) (marking s j M r (responds s j r))
  marking_tracks l t e (fails m) M k fit h = h
  marking_tracks l t e (located q) M k fit h = go (responds s (found_by s t e) (located q)) (judged s some_bytes l t e (located q) k fit).1
    where
      go : (o : Outcome s) → Tracks s some_bytes (logged s l (located q) (said_of o)) (state_after t o)
          → MarksTrack (logged s l (located q) (said_of o)) (marking s (found_by s t e) M (located q) o)
      go (refused n) k' = h
      go (done n t') k' = accepted l (found_by s t e) t' q M (fit q refl) k'.base_is (k'.from e) h
