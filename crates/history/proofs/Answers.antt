-- The model's answers are the history's.
-- Index
--   Fits: what a packet's form and place have passed
--   AllFormed, all
--   TracksFrom: the window says what the packets qs say of the positions from its base on
--   base_in: the base of a state
--   Tracks: the model's base is the history's, and its window says what the accepted packets say
--   base_found, known_exactly, known-value, tracks_consistent
--   Passes: what passes the checks before 11, of a packet that finds the base b
--   judged: the model answers a call as the history asks, and follows the history after it
--   fresh_tracks: a fresh receiver follows the empty history
use Rattle.std.specs.Prelude.{◌≡◌, ◌≤◌, ◌+◌, ◌<◌, ◌-◌, ◌∷◌, ◌↔◌}
use Rattle.words.specs.Words.{arith, ℕ, List, refl, ◌∙◌, sym, ap, [], Some, None, subst, Option, some-injective}
use Rattle.words.specs.Words.{none-ne-some, map, max}
use mathlib.Core.Logic.Iff
use Rattle.wire.specs.declared.Setting.{Setting}
use Rattle.decoder.specs.Field.{Laws}
use Rattle.decoder.specs.Bytes.{Coded}
use Rattle.decoder.specs.Model.{known}
use Rattle.decoder.specs.Promises.{Follows}
use Rattle.decoder.proofs.Bytes.{laws}
use Rattle.history.specs.Symbol.{Symbol}
use Rattle.history.specs.History.{Filling, Located, source, repair, first, named, All, Consistent, Known, Reading, fails, located, base_for, Log, fresh}
use Rattle.history.specs.History.{raised, base_of, logged, Counted, New, Judged}
use Rattle.wire.specs.Answers.{refusal}
use Rattle.history.specs.Model.{packet_of, Joined, State, opened, found_by, said_of, state_after, added, responds}
use Rattle.history.proofs.Cases.{IsRefusal, numeral, IsLocated, packet_path, number_in}
use Rattle.history.proofs.Counting.{count_counted}
use Rattle.history.proofs.Says.{Formed, says}
use Rattle.decoder.specs.Model as model
use Rattle.decoder.specs.Receiver as decoder
use Rattle.decoder.specs.Packets as packets
use Rattle.decoder.proofs.History as history

-- What a packet's form and place have passed: it does not lie behind the base, is no longer than the window, and has symbols of E bytes.
pub record Fits (s : Setting) (base : ℕ) (q : Located) : Type 0 where
  pub ahead : base ≤ first q
  pub short : named q ≤ s.width
  pub formed : Formed s.size q

abbrev pub AllFormed : ℕ → List Located → Type 0
AllFormed E [] = Unit {0}
AllFormed E (q ∷ qs) = Formed E q × AllFormed E qs

module _ (s : Setting) (some_bytes : 0 < s.size) where
  open s use {size as E, width}

  abbrev rules : Laws (Coded E)
  rules = laws E some_bytes

  pub all : (A : List Located) → AllFormed E A → (f : Filling E) → decoder.SatisfiesAll (Coded E) (map (packet_of E) A) f ↔ All E A f
  all [] g f = Iff.rfl
  all (q ∷ A) g f = Iff.and (says E some_bytes q g.0 f) (all A g.1 f)

  first_of : (q : Located) → (packet_of E q).first ≡ first q
  unfolding packets.source packets.repair
  first_of (source p vs) = refl
  first_of (repair p n cs vs) = refl

  named-of : (q : Located) → (packet_of E q).count ≡ named q
  unfolding packets.source packets.repair
  named-of (source p vs) = refl
  named-of (repair p n cs vs) = refl

  -- The window says what the packets qs say of the positions from its base on.
  pub record TracksFrom (qs : List Located) (t : Joined s) : Type 0 where
    pub formed : AllFormed E qs
    pub follows : Follows (map (packet_of E) qs) t

  -- The base of a state.
  abbrev pub base_in : State s → Option ℕ
  base_in None = None
  base_in (Some t) = Some t.base

  -- The model's base is the history's, and its window says what the accepted packets say; before any base, wherever it will be.
  pub record Tracks (l : Log) (t : State s) : Type 0 where
    pub base_is : base_of s l ≡ base_in t
    pub from : (e : ℕ) → TracksFrom l (found_by s t e)

  found_base : (t : State s) (e : ℕ) → base_for (base_in t) e ≡ (found_by s t e).base
  found_base None e = refl
  found_base (Some t) e = refl

  pub base_found : (l : Log) (t : State s) (e : ℕ) → Tracks l t → base_for (base_of s l) e ≡ (found_by s t e).base
  base_found l t e k = ap (λ o. base_for o e) k.base_is ∙ found_base t e

  module _ (qs : List Located) (t : Joined s) (k : TracksFrom qs t) where
    abbrev A : List (decoder.Packet (Coded E))
    A = map (packet_of E) qs

    abbrev same : (f : Filling E) → decoder.SatisfiesAll (Coded E) A f ↔ All E qs f
    same = all qs k.formed

    pub known_exactly : (i : ℕ) → decoder.Accepted (known t.window i) ↔ Known E qs (t.base + i)
    known_exactly i =
        let h = (history.faithful rules A t k.follows).exactly i in
        ((λ a f g x y. h.0 a f g ((same f).1 x) ((same g).1 y)), (λ a. h.1 (λ f g x y. a f g ((same f).0 x) ((same g).0 y))))

    pub known-value : (i : ℕ) (v : Symbol E) → known t.window i ≡ Some v → (f : Filling E) → All E qs f → f (t.base + i) ≡ v
    known-value i v h f a = (history.faithful rules A t k.follows).shown i v h f ((same f).1 a)

    pub tracks_consistent : Consistent E qs
    tracks_consistent =
        let (f, a) = (history.faithful rules A t k.follows).filling in
        (f, (same f).0 a)

  base_after : (b : ℕ) (o : Option (model.State (Coded E) width)) (t' : Joined s)
      → decoder.and_then o (λ S. Some (record { base = b; window = S })) ≡ Some t' → t'.base ≡ b
  base_after b None t' h = absurd (none-ne-some t' h)
  base_after b (Some S) t' h = sym (ap (λ (x : Joined s). x.base) (some-injective _ _ h))

  -- The model's base rises as the history says.
  pub rises : (t t' : Joined s) (q : Located) → decoder.receive t (packet_of E q) ≡ Some t' → t'.base ≡ max t.base (first q + named q - width)
  unfolding decoder.receive decoder.rise
  rises t t' q h =
      let d : ℕ = ((packet_of E q).first + (packet_of E q).count) - (t.base + width) in
      let o = decoder.insert_all (decoder.over (Coded E) width (t.base + d) (packet_of E q)) (decoder.advance_by d t.window) in
      let z = base_after (t.base + d) o t' h in
      omega (arith, z, first_of q, named-of q)

  is_new : (l : Log) (t t' : Joined s) (q : Located) → t.base ≤ t'.base → TracksFrom l t → TracksFrom (q ∷ l) t' → (i : ℕ)
      → New s l q (t'.base + i)
      ↔ (decoder.Accepted (known t'.window i) × ¬ decoder.Accepted (known t.window ((t'.base - t.base) + i)))
  is_new l t t' q up k k' i =
      let now = known_exactly (q ∷ l) t' k' i in
      let before = known_exactly l t k ((t'.base - t.base) + i) in
      let place : t.base + ((t'.base - t.base) + i) ≡ t'.base + i = omega arith in (
        (λ n. (now.1 n.0, λ a. n.1 (rw (← place) (before.0 a)))),
        (λ a. (now.0 a.0, λ x. a.1 (before.1 (rw place x)))),
      )

  tally : (l : Log) (t t' : Joined s) (q : Located) → t.base ≤ t'.base → TracksFrom l t → TracksFrom (q ∷ l) t'
      → Counted (λ i. New s l q (t'.base + i)) width (decoder.newly t t')
  unfolding decoder.newly
  tally l t t' q up k k' = count_counted width (known t'.window) _ _ (is_new l t t' q up k k')

  -- A packet at its place, which finds the receiver as t: what the model answers, and the model after it.
  received : (l : Log) (x : State s) (t : Joined s) (q : Located) → Formed E q → Tracks l x → TracksFrom l t → base_for (base_of s l) (first q) ≡ t.base
      → (o : Option (Joined s)) → decoder.receive t (packet_of E q) ≡ o
      → history.Received rules (map (packet_of E) l) (packet_of E q) o
      → Judged s l (located q) (said_of (added s t o)) × Tracks (logged s l (located q) (said_of (added s t o))) (state_after x (added s t o))
  received l x t q w g k at None e h =
      let never : ¬ Consistent E (q ∷ l) = λ (f, a). h f ((all l k.formed f).1 a.1) ((says E some_bytes q w f).1 a.0) in (
        record {
          accepted = ((λ a. absurd a), (λ (q', p, c). never (subst (λ x. Consistent E (x ∷ l)) (sym (packet_path p)) c)));
          counted = λ q' n p c. absurd (subst IsRefusal c tt);
          failed = λ m p. absurd (subst IsLocated p tt);
          contradicts = λ q' p. ((λ _. subst (λ x. ¬ Consistent E (x ∷ l)) (packet_path p) never), (λ _. refl));
        },
        g,
      )
  received l x t q w g k at (Some t') e h =
      let k' : TracksFrom (q ∷ l) t' = record { formed = (w, k.formed); follows = h } in
      let filled : Consistent E (q ∷ l) = tracks_consistent (q ∷ l) t' k' in
      let rose = rises t t' q e in
      let base : raised s (base_of s l) q ≡ t'.base = omega (arith, rose, at) in (
        record {
          accepted = ((λ _. (q, refl, filled)), (λ _. tt));
          counted = λ q' n p c.
              subst (λ x. Counted (λ i. New s l x (raised s (base_of s l) x + i)) width n) (packet_path p)
              (subst (Counted (λ i. New s l q (raised s (base_of s l) q + i)) width) (ap numeral c)
              (subst (λ b. Counted (λ i. New s l q (b + i)) width (decoder.newly t t')) (sym base) (tally l t t' q (omega (arith, rose)) k k')));
          failed = λ m p. absurd (subst IsLocated p tt);
          contradicts = λ q' p. (
            (λ c. absurd (subst IsRefusal (sym c) tt)),
            (λ n. absurd (n (subst (λ x. Consistent E (x ∷ l)) (packet_path p) filled))),
          );
        },
        record { base_is = ap Some base; from = λ _. k' },
      )

  -- What passes the checks before 11, of a packet that finds the base b.
  abbrev pub Passes : (l : Log) (b : ℕ) → Located → Type 0
  Passes l b q = Fits s b q × (base_for (base_of s l) (first q) ≡ b)

  -- The model answers a call as the history asks, and follows the history after it.
  pub judged : (l : Log) (t : State s) (e : ℕ) (r : Reading) → Tracks l t
      → let j = found_by s t e in
      ((q : Located) → r ≡ located q → Passes l j.base q)
      → Judged s l r (said_of (responds s j r)) × Tracks (logged s l r (said_of (responds s j r))) (state_after t (responds s j r))
  judged l t e (fails m) k fit = (
    record {
      accepted = ((λ a. absurd a), (λ (q, p, c). absurd (subst IsLocated (sym p) tt)));
      counted = λ q n p c. absurd (subst IsLocated (sym p) tt);
      failed = λ m' p. ap (λ r. refusal (number_in r)) p;
      contradicts = λ q p. absurd (subst IsLocated (sym p) tt);
    },
    k,
  )
  judged l t e (located q) k fit =
      let j = found_by s t e in
      let (g, at) = fit q refl in
      received l t j q g.formed k (k.from e) at (decoder.receive j (packet_of E q)) refl
      (history.receive_follows rules (map (packet_of E) l) j (packet_of E q) (k.from e).follows
      (omega (arith, g.ahead, first_of q), omega (arith, g.short, named-of q)))

  -- A fresh receiver follows the empty history.
  pub fresh_tracks : Tracks fresh (opened s)
  fresh_tracks = record { base_is = refl; from = λ e. record { formed = tt; follows = history.fresh_follows rules width e } }
