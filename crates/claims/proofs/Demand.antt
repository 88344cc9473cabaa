-- Demand 3 holds of every list of calls that the promises allow.
-- Index
--   some_bytes
--   Stands: the memory holds a state that follows the history
--   read_found: what is read of a call by the history is what the state x makes of it, and what passes the checks
--   read_passes
--   called: a call on a memory that holds the state x
--   stands
--   held_fresh: before any base the memory holds that
--   From, held_from
--   at_base: what the two calls find at the ESI of the position b + d
--   symbol, found, here, exactly, value-is, opened_stands
--   had_setting: an opening that answers 0 had a setting
--   demand_3
use denote.Ref.{Bor}
use Rattle.std.specs.Prelude.{◌≡◌, ◌≤◌, ◌+◌, ◌<◌, ◌%◌, ◌∷◌, ◌++◌, ◌^◌, ◌↔◌, ◌⊎◌, Result}
use Rattle.words.specs.Words.{arith, ℕ, List, length, refl, ◌∙◌, sym, ap, [], Some, None, subst, Option}
use Rattle.words.specs.Words.{some-injective, none-ne-some, dec_lt, inr, inl}
use mathlib.Core.Logic.Iff
use Rattle.wire.specs.declared.Setting.{Setting}
use Rattle.wire.specs.Settings.{setting_of, Valid}
use Rattle.wire.proofs.Settings.{setting-names}
use Rattle.decoder.specs.Model.{known}
use Rattle.history.specs.Symbol.{Symbol, bytes_of}
use Rattle.history.specs.History.{IsValue, Located, Filling, All, Known, located, reading, Log, fresh, OfBytes, esi_of, base_of, logged, Judged}
use Rattle.history.specs.History.{halfway}
use Rattle.wire.specs.Answers.{value, refusal, said}
use Rattle.history.specs.Model.{Joined, State, opened, found_by, Outcome, refused, done, said_of, state_after, responds, answering, receiving, Finding, shows}
use Rattle.history.specs.Model.{hides, shown, finding}
use Rattle.receiver.specs.Promises.{Layout, opening, Opened, Follows, Received, Finds, SymbolAnswered, Shows, PartShown}
use Rattle.history.proofs.Answers.{Tracks, TracksFrom, Passes, base_in, base_found, judged, known_exactly, known-value, tracks_consistent, fresh_tracks}
use Rattle.history.proofs.Readings.{reading_passes}
use Rattle.history.proofs.Sides.{limits, found_inside, found-past, found_behind}
use Rattle.claims.specs.Run.{Step, Run, final, read, goes_on, history}
use Rattle.claims.specs.Demand.{esi, ShownExactly, HiddenBefore, HiddenOutside, Demand3, EveryList}
use Rattle.decoder.specs.Receiver as decoder
use Rattle.wire.specs.declared.Refusal.{Refusal}

module _ (L : Layout) (s : Setting) (flows : List ℕ) (v : Valid s) where
  open s use {size as E, width}

  abbrev pub some_bytes : 0 < E
  some_bytes = let h = v.size_least in omega arith

  -- The memory holds a state that follows the history.
  pub record Stands (m : List ℕ) (l : Log) : Type 0 where
    pub state : State s
    pub held : L.Holds m s flows state
    pub tracks : Tracks s some_bytes l state

  -- ---- The calls

  did : (m m' : List ℕ) (a : Result ℕ Refusal) (t : State s) (o : Outcome s) → Follows L s flows o m m' a → L.Holds m s flows t
      → (said a ≡ said_of o) × L.Holds m' s flows (state_after t o)
  did m m' a t (refused n) (e, q) h = (e, subst (λ x. L.Holds x s flows t) (sym q) h)
  did m m' a t (done n t') p h = p

  -- What is read of a call by the history is what the state x makes of it, and what passes the checks.
  pub read_found : (l : Log) (t : Step) (x : State s) → Tracks s some_bytes l x
      → reading s flows (found_by s x (esi_of t.call)).base (length t.working) t.call ≡ read s flows l t
  read_found l t x k = ap (λ y. reading s flows y (length t.working) t.call) (sym (base_found s some_bytes l x (esi_of t.call) k))

  pub read_passes : (l : Log) (t : Step) (x : State s) → Tracks s some_bytes l x → OfBytes t.call → (q : Located)
      → reading s flows (found_by s x (esi_of t.call)).base (length t.working) t.call ≡ located q
      → Passes s some_bytes l (found_by s x (esi_of t.call)).base q
  read_passes l t x k b q e =
      subst (λ y. Passes s some_bytes l y q) (base_found s some_bytes l x (esi_of t.call) k)
      (reading_passes s flows some_bytes l (length t.working) t.call q b (sym (read_found l t x k) ∙ e))

  -- A call on a memory that holds the state x.
  pub called : (m : List ℕ) (l : Log) (t : Step) (x : State s) → L.Holds m s flows x → Tracks s some_bytes l x → OfBytes t.call
      → Received L t.call m t.memory t.working t.left t.answer
      → let o = receiving s flows x (length t.working) t.call in
      (said t.answer ≡ said_of o) × Judged s l (read s flows l t) (said t.answer)
      × Tracks s some_bytes (logged s l (read s flows l t) (said t.answer)) (state_after x o) × L.Holds t.memory s flows (state_after x o)
  unfolding answering
  called m l t x held k b p =
      let j = found_by s x (esi_of t.call) in
      let r = reading s flows j.base (length t.working) t.call in
      let same : r ≡ read s flows l t = read_found l t x k in
      let h = judged s some_bytes l x (esi_of t.call) r k (read_passes l t x k b) in
      let (e, z) = did m t.memory t.answer x (responds s j r) (p.follows s flows x held) held in
      let i = subst (λ a. Judged s l r a × Tracks s some_bytes (logged s l r a) (state_after x (responds s j r))) (sym e) h in
      let (g, n) =
      subst (λ y. Judged s l y (said t.answer) × Tracks s some_bytes (logged s l y (said t.answer)) (state_after x (responds s j r))) same i in
      (e, g, n, z)

  pub step : (m : List ℕ) (l : Log) (t : Step) → Stands m l → OfBytes t.call → Received L t.call m t.memory t.working t.left t.answer
      → Judged s l (read s flows l t) (said t.answer) × Stands t.memory (logged s l (read s flows l t) (said t.answer))
  step m l t g b p =
      let (e, j, n, z) = called m l t g.state g.held g.tracks b p in
      (j, record { state = state_after g.state (receiving s flows g.state (length t.working) t.call); held = z; tracks = n })

  pub stands : (ts : List Step) (m : List ℕ) (l : Log) → Stands m l → Run L m ts → Stands (final m ts) (goes_on s flows l ts)
  stands [] m l g p = g
  stands (t ∷ ts) m l g p = stands ts t.memory _ (step m l t g p.0 p.1).1 p.2

  each : (before : List Step) (t : Step) (after : List Step) (m : List ℕ) (l : Log) → Stands m l → Run L m (before ++ (t ∷ after))
      → Judged s (goes_on s flows l before) (read s flows (goes_on s flows l before) t) (said t.answer)
  each [] t after m l g p = (step m l t g p.0 p.1).0
  each (u ∷ before) t after m l g p = each before t after u.memory _ (step m l u g p.0 p.1).1 p.2

  -- ---- The symbol calls

  -- Before any base the memory holds that; after it, a receiver with the base.
  pub held_fresh : (m : List ℕ) (l : Log) → Stands m l → base_of s l ≡ None → L.Holds m s flows None
  held_fresh m l g e = go g.state g.held (sym g.tracks.base_is ∙ e)
    where
      go : (x : State s) → L.Holds m s flows x → base_in s some_bytes x ≡ None → L.Holds m s flows None
      go None h e = h
      go (Some t) h e = absurd (none-ne-some t.base (sym e))

  pub record From (m : List ℕ) (qs : List Located) (b : ℕ) : Type 0 where
    pub state : Joined s
    pub base_is : state.base ≡ b
    pub held : L.Holds m s flows (Some state)
    pub tracks : TracksFrom s some_bytes qs state

  pub held_from : (m : List ℕ) (l : Log) → Stands m l → (b : ℕ) → base_of s l ≡ Some b → From m l b
  held_from m l g b e = go g.state g.held (sym g.tracks.base_is ∙ e) (g.tracks.from b)
    where
      go : (x : State s) → L.Holds m s flows x → base_in s some_bytes x ≡ Some b → TracksFrom s some_bytes l (found_by s x b) → From m l b
      go None h e k = absurd (none-ne-some b e)
      go (Some t) h e k = record { state = t; base_is = some-injective _ _ e; held = h; tracks = k }

  hidden_before : (m : List ℕ) → L.Holds m s flows None → (e : ℕ) → HiddenBefore L s m e
  unfolding finding
  hidden_before m h e = record {
    answer = λ a p. p.finds s flows None h;
    nothing = λ memory part q p. p.shows s flows None (subst (λ x. L.Holds x s flows None) (sym q) h);
  }

  module _ (m : List ℕ) (qs : List Located) (b : ℕ) (g : From m qs b) where
    -- What the two calls find at the ESI of the position b + d.
    pub at_base : (d : ℕ) (o : Finding E) → finding s (Some g.state) ((g.state.base + d) % 2 ^ 32) ≡ o → finding s (Some g.state) (esi (b + d)) ≡ o
    at_base d o e = subst (λ x. finding s (Some g.state) ((x + d) % 2 ^ 32) ≡ o) g.base_is e

    answer_is : (d : ℕ) (o : Finding E) → finding s (Some g.state) (esi (b + d)) ≡ o → (a : Result ℕ Refusal) → SymbolAnswered L m (esi (b + d)) a
        → Finds L o a
    answer_is d o e a p = subst (λ x. Finds L x a) e (p.finds s flows (Some g.state) g.held)

    part-is : (d : ℕ) (o : Finding E) → finding s (Some g.state) (esi (b + d)) ≡ o → (memory part : Bor (List ℕ)) → memory.now ≡ m
        → PartShown L memory part (esi (b + d)) → Shows L s o memory part
    part-is d o e memory part q p =
        subst (λ x. Shows L s x memory part) e (p.shows s flows (Some g.state) (subst (λ x. L.Holds x s flows (Some g.state)) (sym q) g.held))

    outside : (d : ℕ) → width ≤ d → d < 2 ^ 32 → HiddenOutside L s m b d
    outside d w h = record {
      past = λ n a p. answer_is d (hides 12) (at_base d (hides 12) (found-past s g.state d h n w)) a p;
      behind = λ n a p. answer_is d (hides 8) (at_base d (hides 8) (found_behind s g.state d h n)) a p;
      nothing = λ memory part q p. go (dec_lt d halfway) memory part q p;
    }
      where
        go : Dec (d < halfway) → (memory part : Bor (List ℕ)) → memory.now ≡ m → PartShown L memory part (esi (b + d)) → part.now ≡ []
        go (yes n) memory part q p = part-is d (hides 12) (at_base d (hides 12) (found-past s g.state d h n w)) memory part q p
        go (no n) memory part q p = part-is d (hides 8) (at_base d (hides 8) (found_behind s g.state d h (omega arith))) memory part q p

    module _ (i : ℕ) (within : i < width) where
      abbrev pub symbol : Option (Symbol E)
      symbol = known g.state.window i

      abbrev pub found : Option (Symbol E) → Finding E
      found o = shown s (g.state.base + i) o

      pub here : finding s (Some g.state) (esi (b + i)) ≡ found symbol
      here = let n = v.width_most in at_base i (found symbol) (found_inside s g.state i (omega (arith, limits)) (omega (arith, limits)) within)

      pub exactly : decoder.Accepted symbol ↔ Known E qs (b + i)
      exactly = subst (λ x. decoder.Accepted symbol ↔ Known E qs (x + i)) g.base_is (known_exactly s some_bytes qs g.state g.tracks i)

      pub value-is : (x : Symbol E) → symbol ≡ Some x → (f : Filling E) → All E qs f → f (b + i) ≡ x
      value-is x k f h = subst (λ y. f (y + i) ≡ x) g.base_is (known-value s some_bytes qs g.state g.tracks i x k f h)

      zero-or_twelve : (o : Option (Symbol E)) (a : Result ℕ Refusal) → Finds L (found o) a → (said a ≡ value 0) ⊎ (said a ≡ refusal 12)
      zero-or_twelve None a e = inr e
      zero-or_twelve (Some x) a e = inl e

      zero_exactly : (o : Option (Symbol E)) (a : Result ℕ Refusal) → Finds L (found o) a → (said a ≡ value 0) ↔ decoder.Accepted o
      zero_exactly None a e = ((λ h. absurd (subst IsValue (sym h ∙ e) tt)), (λ h. absurd h))
      zero_exactly (Some x) a e = ((λ _. tt), (λ _. e))

      bytes_here : (memory part : Bor (List ℕ)) (o : Option (Symbol E)) → symbol ≡ o → Shows L s (found o) memory part
          → decoder.Accepted o → (f : Filling E) → All E qs f → part.now ≡ bytes_of E (f (b + i))
      bytes_here memory part None k p a f h = absurd a
      bytes_here memory part (Some x) k p a f h = p.0 ∙ ap (bytes_of E) (sym (value-is x k f h))

      nothing_here : (memory part : Bor (List ℕ)) (o : Option (Symbol E)) → Shows L s (found o) memory part → ¬ decoder.Accepted o → part.now ≡ []
      nothing_here memory part None p n = p
      nothing_here memory part (Some x) p n = absurd (n tt)

      bytes-shown : (memory part : Bor (List ℕ)) → memory.now ≡ m → PartShown L memory part (esi (b + i))
          → Known E qs (b + i) → (f : Filling E) → All E qs f → part.now ≡ bytes_of E (f (b + i))
      bytes-shown memory part q p k f h = bytes_here memory part symbol refl (part-is i (found symbol) here memory part q p) (exactly.1 k) f h

      shown_exactly : ShownExactly L s m qs (b + i)
      shown_exactly = record {
        answers = λ a p. zero-or_twelve symbol a (answer_is i (found symbol) here a p);
        shown = λ a p. Iff.trans (zero_exactly symbol a (answer_is i (found symbol) here a p)) exactly;
        bytes = bytes-shown;
        nothing = λ memory part q p n. nothing_here memory part symbol (part-is i (found symbol) here memory part q p) (λ a. n (exactly.0 a));
        sender = λ memory part q p k all join offset f h c l n. bytes-shown memory part q p k f h ∙ c (b + i) l n;
      }

  pub opened_stands : (scheme size w : ℕ) (m₀ m : List ℕ) (a : Result ℕ Refusal) → Opened L scheme size w flows m₀ m a → said a ≡ value 0
      → setting_of scheme size w ≡ Some s → Stands m fresh
  opened_stands scheme size w m₀ m a p e h = record { state = opened s; held = p.holds s h e; tracks = fresh_tracks s some_bytes }

  pub demand : (m : List ℕ) → Stands m fresh → (ts : List Step) → Run L m ts → Demand3 L s flows ts (final m ts)
  demand m g ts p =
      let n = stands ts m fresh g p in
      record {
        calls = λ before t after e. each before t after m fresh g (subst (Run L m) e p);
        consistent = tracks_consistent s some_bytes (history s flows ts) (found_by s n.state 0) (n.tracks.from 0);
        before = λ e x. hidden_before (final m ts) (held_fresh (final m ts) (history s flows ts) n e) x;
        window = λ b e i h. shown_exactly (final m ts) (history s flows ts) b (held_from (final m ts) (history s flows ts) n b e) i h;
        outside = λ b e d h k. outside (final m ts) (history s flows ts) b (held_from (final m ts) (history s flows ts) n b e) d h k;
      }

-- An opening that answers 0 had a setting.
pub had_setting : (o : Option Setting) (room : ℕ) → opening o room ≡ value 0 → (s : Setting) × (o ≡ Some s)
had_setting None room e = absurd (subst IsValue (sym e) tt)
had_setting (Some s) room e = (s, refl)

pub demand_3 : (L : Layout) → EveryList L
demand_3 L scheme E w flows m₀ m a p e ts r =
    let (s, h) = had_setting (setting_of scheme E w) (length m₀) (sym p.answer ∙ e) in
    let v = (setting-names scheme E w s h).valid in
    (s, h, demand L s flows v m (opened_stands L s flows v scheme E w m₀ m a p e h) ts r)
