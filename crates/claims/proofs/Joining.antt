-- Joining a stream: 8 and 9 can't stop the first packet, its first ESI is the base, and no repair packet marks a start.
use Rattle.std.specs.Prelude.{◌≡◌, ◌≤◌, ◌∷◌, ◌++◌, ◌⊎◌}
use Rattle.words.specs.Words.{arith, ℕ, List, length, refl, ◌∙◌, sym, ap, [], Some, None, subst, inr, inl}
use Rattle.wire.specs.declared.Setting.{Setting}
use Rattle.wire.specs.Settings.{Valid}
use Rattle.wire.proofs.Settings.{setting-names}
use Rattle.wire.specs.Answers.{Said, value, refusal, said}
use Rattle.history.specs.History.{Located, source, repair, first, OfBytes, esi_of, Reading, fails, located, base_for, joined_at, Log, fresh, IsValue, Consistent}
use Rattle.history.specs.History.{raised, base_of, logged, reading, Judged, Reached, already, later, MarkedBy, Start}
use Rattle.receiver.specs.Promises.{Layout}
use Rattle.history.proofs.Cases.{numeral}
use Rattle.history.proofs.Readings.{reading_fits, joins_at, joins_near}
use Rattle.claims.specs.Run.{Step, Run, read, goes_on, history}
use Rattle.claims.specs.Joining.{JoinsBy, Joins, Unmarked}
use Rattle.claims.proofs.Demand.{demand_3}
use Rattle.claims.proofs.Sent.{none_accepted}

-- The log after one more call.
pub goes_one : (s : Setting) (flows : List ℕ) (ts : List Step) (l : Log) (t : Step)
    → goes_on s flows l (ts ++ (t ∷ [])) ≡ logged s (goes_on s flows l ts) (read s flows (goes_on s flows l ts) t) (said t.answer)
goes_one s flows [] l t = refl
goes_one s flows (u ∷ ts) l t = goes_one s flows ts _ t

-- The last call of a run is of bytes.
pub last_bytes : (L : Layout) (ts : List Step) (t : Step) (m : List ℕ) → Run L m (ts ++ (t ∷ [])) → OfBytes t.call
last_bytes L [] t m r = r.0
last_bytes L (u ∷ ts) t m r = last_bytes L ts t u.memory r.2

module _ (s : Setting) (flows : List ℕ) (v : Valid s) (ts : List Step) (t : Step) (b : OfBytes t.call) (e : base_of s (history s flows ts) ≡ None)
    (judged : Judged s (history s flows ts) (read s flows (history s flows ts) t) (said t.answer)) where
  abbrev l : Log
  l = history s flows ts

  -- What is read of the call, at its own first ESI.
  at_esi : read s flows l t ≡ reading s flows (esi_of t.call) (length t.working) t.call
  at_esi = ap (λ o. reading s flows (base_for o (esi_of t.call)) (length t.working) t.call) e

  -- Neither 8 nor 9 is the number of a check that fails, nor 11.
  not_stopped : (k : ℕ) → 8 ≤ k → k ≤ 9 → said t.answer ≡ refusal k → ⊥
  not_stopped k lo hi h = go (read s flows l t) refl
    where
      go : (r : Reading) → read s flows l t ≡ r → ⊥
      go (fails m) x =
          let n : m ≡ k = ap numeral (sym (judged.failed m x) ∙ h) in
          joins_near s flows v (length t.working) t.call b k lo hi (sym at_esi ∙ x ∙ ap fails n)
      go (located q) x =
          let none-fits : ¬ Consistent s.size (q ∷ l) = λ c. subst IsValue h (judged.accepted.1 (q, x, c)) in
          let n : k ≡ 11 = ap numeral (sym h ∙ (judged.contradicts q x).1 none-fits) in
          omega (arith, n, hi)

  -- The log after the packet was accepted.
  module _ (q : Located) (x : read s flows l t ≡ located q) (a : IsValue (said t.answer)) where
    after : history s flows (ts ++ (t ∷ [])) ≡ q ∷ []
    after =
        goes_one s flows ts fresh t ∙ ap (λ r. logged s l r (said t.answer)) x ∙ go (said t.answer) a
      where
        go : (y : Said) → IsValue y → logged s l (located q) y ≡ q ∷ []
        go (value n) _ = ap (λ (k : Log). q ∷ k) (none_accepted s l e)
        go (refusal n) h = absurd h

    begins : first q ≡ esi_of t.call
    begins = joins_at s flows (length t.working) t.call q b (sym at_esi ∙ x)

    based : raised s None q ≡ esi_of t.call
    based =
        let w = (reading_fits s flows (omega (arith, v.size_least)) (esi_of t.call) (length t.working) t.call q b (sym at_esi ∙ x)).short in
        omega (arith, begins, w)

  refused_base : (r : Reading) (n : ℕ) → base_of s (logged s l r (refusal n)) ≡ None
  refused_base (fails m) n = e
  refused_base (located q) n = e

  joins_by : JoinsBy s flows ts t
  joins_by = record {
    not_behind = not_stopped 8 (omega arith) (omega arith);
    not-far = not_stopped 9 (omega arith) (omega arith);
    joins = λ a.
        let (q, x, c) = judged.accepted.0 a in
        let is = after q x a in
        (ap joined_at is ∙ ap Some (begins q x a), ap (base_of s) is ∙ ap Some (based q x a));
    stays = λ n h. ap (base_of s) (goes_one s flows ts fresh t ∙ ap (logged s l (read s flows l t)) h) ∙ refused_base (read s flows l t) n;
  }

pub joins : (L : Layout) → Joins L
joins L scheme E w flows m₀ m a p e ts t r =
    let (s, h, d) = demand_3 L scheme E w flows m₀ m a p e (ts ++ (t ∷ [])) r in
    (s, h, λ n. joins_by s flows (setting-names scheme E w s h).valid ts t (last_bytes L ts t m r) n (d.calls ts t [] refl))

-- ---- Starts

none-reached : (s : Setting) (qs : List Located) (base : ℕ) (A : ℕ → Type 0) → ((x : ℕ) → A x → ⊥) → (p : ℕ) → Reached s qs base A p → ⊥
none-reached s qs base A h p (already a m) = h p a
none-reached s qs base A h p (later {p = x} r w k f a m) = none-reached s qs base A h x r

none-marked : (s : Setting) (qs : List Located) → ((y : ℕ) → Start s qs y → ⊥) → (x n : ℕ) (cs vs : List (List ℕ)) (y : ℕ)
    → Start s qs y ⊎ MarkedBy s (repair x n cs vs) y → ⊥
none-marked s qs h x n cs vs y (inl m) = h y m
none-marked s qs h x n cs vs y (inr m) = m

pub unmarked : Unmarked
unmarked s [] r p h = h
unmarked s (source x symbols ∷ qs) r p h = absurd r
unmarked s (repair x n cs vs ∷ qs) r p h = none-reached s (repair x n cs vs ∷ qs) _ _ (none-marked s qs (unmarked s qs r) x n cs vs) p h
