-- The packets of a history are those that a call of the list brought, was accepted with, and was read as.
use Rattle.std.specs.Prelude.{◌≡◌, ◌∷◌, ◌++◌, ◌↔◌, ◌⊎◌}
use Rattle.words.specs.Words.{ℕ, List, refl, sym, ap, [], subst, inl, inr, ⊎_elim}
use mathlib.Core.List.Memᴰ
use mathlib.Core.List.{Memᴰ}
use Rattle.wire.specs.declared.Setting.{Setting}
use Rattle.wire.specs.Answers.{Said, value, refusal, said}
use Rattle.history.specs.History.{Located, Reading, fails, located, Log, fresh, IsValue, logged}
use Rattle.history.proofs.Cases.{IsLocated, packet_path}
use Rattle.claims.specs.Run.{Step, read, goes_on, history}

module _ (s : Setting) (flows : List ℕ) where
  -- A call of the list, from a log on, was accepted, and its packet was read as q.
  pub record AcceptedAs (l : Log) (ts : List Step) (q : Located) : Type 0 where
    pub before : List Step
    pub step : Step
    pub after : List Step
    pub split : ts ≡ before ++ (step ∷ after)
    pub accepted : IsValue (said step.answer)
    pub read_as : read s flows (goes_on s flows l before) step ≡ located q

  later : (l : Log) (t : Step) (ts : List Step) (q : Located) → AcceptedAs (logged s l (read s flows l t) (said t.answer)) ts q
      → AcceptedAs l (t ∷ ts) q
  later l t ts q k = record {
    before = t ∷ k.before;
    step = k.step;
    after = k.after;
    split = ap (λ (x : List Step). t ∷ x) k.split;
    accepted = k.accepted;
    read_as = k.read_as;
  }

  -- One call.
  takes : (l : Log) (q : Located) (r : Reading) (a : Said) → r ≡ located q → IsValue a → Memᴰ q (logged s l r a)
  takes l q (located x) (value n) e v = Memᴰ.head (sym (packet_path e))
  takes l q (located x) (refusal n) e v = absurd v
  takes l q (fails m) a e v = absurd (subst IsLocated (sym e) tt)

  keeps : (l : Log) (q : Located) (r : Reading) (a : Said) → Memᴰ q l → Memᴰ q (logged s l r a)
  keeps l q (located x) (value n) k = Memᴰ.tail k
  keeps l q (located x) (refusal n) k = k
  keeps l q (fails m) a k = k

  taken : (l : Log) (q : Located) (r : Reading) (a : Said) → Memᴰ q (logged s l r a) → ((r ≡ located q) × IsValue a) ⊎ Memᴰ q l
  taken l q (located x) (value n) k = ⊎_elim (λ e. inl (ap located (sym e), tt)) inr (Memᴰ.cases_cons k)
  taken l q (located x) (refusal n) k = inr k
  taken l q (fails m) a k = inr k

  -- All of them.
  pub keeps_on : (l : Log) (ts : List Step) (q : Located) → Memᴰ q l → Memᴰ q (goes_on s flows l ts)
  keeps_on l [] q k = k
  keeps_on l (t ∷ ts) q k = keeps_on (logged s l (read s flows l t) (said t.answer)) ts q (keeps l q (read s flows l t) (said t.answer) k)

  takes_on : (l : Log) (before : List Step) (t : Step) (after : List Step) (q : Located) → read s flows (goes_on s flows l before) t ≡ located q
      → IsValue (said t.answer) → Memᴰ q (goes_on s flows l (before ++ (t ∷ after)))
  takes_on l [] t after q e v = keeps_on _ after q (takes l q (read s flows l t) (said t.answer) e v)
  takes_on l (u ∷ before) t after q e v = takes_on (logged s l (read s flows l u) (said u.answer)) before t after q e v

  taken-on : (l : Log) (ts : List Step) (q : Located) → Memᴰ q (goes_on s flows l ts) → AcceptedAs l ts q ⊎ Memᴰ q l
  taken-on l [] q k = inr k
  taken-on l (t ∷ ts) q k =
      ⊎_elim (λ a. inl (later l t ts q a))
      (λ m. ⊎_elim (λ (e, v). inl (record { before = []; step = t; after = ts; split = refl; accepted = v; read_as = e })) inr
      (taken l q (read s flows l t) (said t.answer) m))
      (taken-on (logged s l (read s flows l t) (said t.answer)) ts q k)

  pub accepted_as : (ts : List Step) (q : Located) → Memᴰ q (history s flows ts) ↔ AcceptedAs fresh ts q
  accepted_as ts q = (
    (λ k. ⊎_elim (λ a. a) (λ m. absurd (Memᴰ.not-nil m)) (taken-on fresh ts q k)),
    (λ a. subst (λ x. Memᴰ q (history s flows x)) (sym a.split) (takes_on fresh a.before a.step a.after q a.read_as a.accepted)),
  )
