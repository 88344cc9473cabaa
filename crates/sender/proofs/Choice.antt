-- Two senders whose calls are judged so answer and write alike.
use Rattle.std.specs.Prelude.{◌≡◌, ◌≤◌, ◌+◌, ◌∷◌, ◌*◌, ◌++◌, Result, Ok, Err}
use Rattle.words.specs.Words.{arith, ℕ, List, length, refl, ◌∙◌, sym, ap, [], true, false, Bool, subst, map, ap₂, append_assoc}
use Rattle.words.specs.Words.{append-nil, ℕ_discrete}
use Rattle.wire.specs.declared.Setting.{Setting}
use Rattle.wire.specs.Answers.{Said, refusal, said}
use Rattle.coefficients.specs.Coefficients.{all_ok}
use Rattle.sender.specs.Promises.{answer_of, draws_in}
use Rattle.sender.specs.Run.{SenderCall, added, repaired, memory_after, symbols_of}
use Rattle.wire.specs.Flows.{Announced}
use Rattle.sender.specs.Judged.{Refuses, Writes, Ranged, AduJudged, keys_in, covered, RepairJudged, CallJudged}
use Rattle.sender.specs.Claims.{given, seen, NoChoice}
use Rattle.sender.proofs.Ring.{below}
use Rattle.sender.proofs.Running.{impossible, symbols-append}
use Rattle.wire.specs.declared.Refusal.{Refusal}

-- two answers and outputs that are both so
Alike : Said → Said → List ℕ → List ℕ → Type 0
Alike a b out out' = (a ≡ b) × (out ≡ out')

both_refuse : {k : ℕ} {a b : Said} {m m' n n' out x y : List ℕ} → Refuses k a m m' out x → Refuses k b n n' out y → Alike a b x y
unfolding Alike
both_refuse p q = (p.answer ∙ sym q.answer, p.output ∙ sym q.output)

both_write : {packet : List ℕ} {a b : Said} {out x y : List ℕ} → Writes packet a out x → Writes packet b out y → Alike a b x y
unfolding Alike
both_write p q = (p.answer ∙ sym q.answer, p.output ∙ sym q.output)

module _ (t : Setting) (flows : List ℕ) (xs : List (List ℕ)) (m n : List ℕ) where
  open t use {scheme, size as E, width}

  adu_once : (flow : ℕ) (adu out : List ℕ) (a b : Said) (m' n' x y : List ℕ) → AduJudged t flows xs m flow adu out a m' x
      → AduJudged t flows xs n flow adu out b n' y → Alike a b x y
  adu_once flow adu out a b m' n' x y p q = go (ℕ_discrete _ 1)
    where
      go : Dec (Announced flows flow) → Alike a b x y
      go (no f) = both_refuse (p.stray f) (q.stray f)
      go (yes f) =
          below 65535 (length adu) (λ g. both_refuse (p.long f (λ k. omega (arith, k.0))) (q.long f (λ k. omega (arith, k.0))))
          (λ l. below (width * E) (3 + length adu) (λ g. both_refuse (p.long f (λ k. omega (arith, k.1))) (q.long f (λ k. omega (arith, k.1))))
          (λ h. below (length out) (length adu + 4) (λ g. both_refuse (p.short f (l, h) g) (q.short f (l, h) g))
          (λ g. both_write (p.takes f (l, h) g).0 (q.takes f (l, h) g).0)))

  no_draws : (r : Result (ℕ × ℕ) Refusal) (k : ℕ) → said (answer_of r) ≡ refusal k → draws_in r ≡ 0
  no_draws (Ok (i, d)) k e = absurd (impossible i k e)
  no_draws (Err i) k e = refl

  repair_once : (key dt count : ℕ) (out : List ℕ) (r u : Result (ℕ × ℕ) Refusal) (x y : List ℕ) → RepairJudged t xs m key dt count out (said (answer_of r)) (draws_in r) x
      → RepairJudged t xs n key dt count out (said (answer_of u)) (draws_in u) y → Alike (said (answer_of r)) (said (answer_of u)) x y × (draws_in r ≡ draws_in u)
  repair_once key dt count out r u x y p q =
      below 15 dt (λ g. both (p.range (λ k. omega (arith, k.0))) (q.range (λ k. omega (arith, k.0))))
      (λ i. below count 1 (λ g. both (p.range (λ k. omega (arith, k.1))) (q.range (λ k. omega (arith, k.1))))
      (λ j. below 16 count (λ g. both (p.range (λ k. omega (arith, k.2))) (q.range (λ k. omega (arith, k.2))))
      (λ k. ranged (i, j, k) xs refl)))
    where
      both : {i : ℕ} → Refuses i (said (answer_of r)) m m out x → Refuses i (said (answer_of u)) n n out y
          → Alike (said (answer_of r)) (said (answer_of u)) x y × (draws_in r ≡ draws_in u)
      both {i} f g = (both_refuse f g, no_draws r i f.answer ∙ sym (no_draws u i g.answer))

      drawn : Ranged dt count → ¬ (xs ≡ []) → 8 + count * E ≤ length out → (b : Bool) → all_ok scheme dt (covered t xs) (keys_in t key dt count) ≡ b
          → Alike (said (answer_of r)) (said (answer_of u)) x y × (draws_in r ≡ draws_in u)
      drawn k z l true e = let (f, d) = p.makes k z l e in let (g, c) = q.makes k z l e in (both_write f g, d ∙ sym c)
      drawn k z l false e =
          let w : ¬ (all_ok scheme dt (covered t xs) (keys_in t key dt count) ≡ true) = λ h. let z : ◌≡◌ {A = ℕ} 0 1 = cc in omega arith in
          both (p.draws_fail k z l w) (q.draws_fail k z l w)

      some-taken : Ranged dt count → ¬ (xs ≡ []) → Alike (said (answer_of r)) (said (answer_of u)) x y × (draws_in r ≡ draws_in u)
      some-taken k z =
          below (length out) (8 + count * E) (λ g. both (p.short k z g) (q.short k z g))
          (λ l. drawn k z l _ refl)

      ranged : Ranged dt count → (l : List (List ℕ)) → xs ≡ l → Alike (said (answer_of r)) (said (answer_of u)) x y × (draws_in r ≡ draws_in u)
      ranged k [] e = both (p.empty k e) (q.empty k e)
      ranged k (z ∷ l) e = some-taken k (λ f. omega (arith, ap length e, ap length f))

-- what is taken by a call hangs on its answer alone
taken_alike : (E flow flow₂ : ℕ) (adu adu₂ out out₂ m m₂ x y : List ℕ) (a b : Result ℕ Refusal) → flow ≡ flow₂ → adu ≡ adu₂ → said a ≡ said b
    → symbols_of E (added flow adu out a m x ∷ []) ≡ symbols_of E (added flow₂ adu₂ out₂ b m₂ y ∷ [])
taken_alike E flow flow₂ adu adu₂ out out₂ m m₂ x y (Ok i) (Ok j) f g e = rw (f, g)
taken_alike E flow flow₂ adu adu₂ out out₂ m m₂ x y (Err i) (Err j) f g e = refl
taken_alike E flow flow₂ adu adu₂ out out₂ m m₂ x y (Ok i) (Err j) f g e = absurd (impossible i _ e)
taken_alike E flow flow₂ adu adu₂ out out₂ m m₂ x y (Err i) (Ok j) f g e = absurd (impossible j _ (sym e))

call_once : (t : Setting) (flows : List ℕ) (xs : List (List ℕ)) (m n : List ℕ) (c d : SenderCall) → given c ≡ given d
    → CallJudged t flows xs m c → CallJudged t flows xs n d
    → (seen c ≡ seen d) × (symbols_of t.size (c ∷ []) ≡ symbols_of t.size (d ∷ []))
unfolding Alike
call_once t flows xs m n (added flow adu out r m' x) (added flow₂ adu₂ out₂ r₂ m₂ y) e p q =
    let f : flow ≡ flow₂ = cc in
    let g : adu ≡ adu₂ = cc in
    let h : out ≡ out₂ = cc in
    let (a, o) = adu_once t flows xs m n flow adu out (said r) (said r₂) m' m₂ x y p (rw (← f, ← g, ← h) at q) in
    (rw (a, o), taken_alike t.size flow flow₂ adu adu₂ out out₂ m' m₂ x y r r₂ f g a)
call_once t flows xs m n (repaired key dt count out r x) (repaired key₂ dt₂ count₂ out₂ r₂ y) e p q =
    let f : key ≡ key₂ = cc in
    let g : dt ≡ dt₂ = cc in
    let h : count ≡ count₂ = cc in
    let i : out ≡ out₂ = cc in
    let ((a, o), d) = repair_once t flows xs m n key dt count out r r₂ x y p (rw (← f, ← g, ← h, ← i) at q) in
    (rw (a, o, d), refl)
call_once t flows xs m n (added flow adu out r m' x) (repaired key₂ dt₂ count₂ out₂ r₂ y) e p q = absurd (let z : ◌≡◌ {A = ℕ} 0 1 = cc in omega arith)
call_once t flows xs m n (repaired key dt count out r x) (added flow₂ adu₂ out₂ r₂ m₂ y) e p q = absurd (let z : ◌≡◌ {A = ℕ} 0 1 = cc in omega arith)

-- the calls of a list after those that took xs
JudgedFrom : Setting → (flows : List ℕ) → List (List ℕ) → List ℕ → List SenderCall → Type 0
JudgedFrom t flows xs m l =
    (before : List SenderCall) (c : SenderCall) (after : List SenderCall) → l ≡ before ++ (c ∷ after)
    → CallJudged t flows (xs ++ symbols_of t.size before) (memory_after m before) c

memory_on : (m : List ℕ) (c : SenderCall) (l : List SenderCall) → memory_after m (c ∷ l) ≡ memory_after (memory_after m (c ∷ [])) l
memory_on m (added flow adu out r m' x) l = refl
memory_on m (repaired key dt count out r x) l = refl

judged_on : (t : Setting) (flows : List ℕ) (xs : List (List ℕ)) (m : List ℕ) (c : SenderCall) (l : List SenderCall) → JudgedFrom t flows xs m (c ∷ l)
    → JudgedFrom t flows (xs ++ symbols_of t.size (c ∷ [])) (memory_after m (c ∷ [])) l
unfolding JudgedFrom
judged_on t flows xs m c l f before d after e =
    rw (append_assoc, ← symbols-append t.size (c ∷ []) before, ← memory_on m c before) (f (c ∷ before) d after (ap (λ x. c ∷ x) e))

alike : (t : Setting) (flows : List ℕ) (xs : List (List ℕ)) (m n : List ℕ) (k l : List SenderCall) → map given k ≡ map given l → JudgedFrom t flows xs m k
    → JudgedFrom t flows xs n l → map seen k ≡ map seen l
unfolding JudgedFrom
alike t flows xs m n [] [] e f g = refl
alike t flows xs m n [] (d ∷ l) e f g = absurd (let z : ◌≡◌ {A = ℕ} 0 1 = cc in omega arith)
alike t flows xs m n (c ∷ k) [] e f g = absurd (let z : ◌≡◌ {A = ℕ} 0 1 = cc in omega arith)
alike t flows xs m n (c ∷ k) (d ∷ l) e f g =
    let p : given c ≡ given d = cc in
    let q : map given k ≡ map given l = cc in
    let (one, new) = call_once t flows xs m n c d p (rw append-nil at (f [] c k refl)) (rw append-nil at (g [] d l refl)) in
    let rest = alike t flows (xs ++ symbols_of t.size (c ∷ [])) (memory_after m (c ∷ [])) (memory_after n (d ∷ [])) k l q (judged_on t flows xs m c k f)
    (subst (λ x. JudgedFrom t flows (xs ++ x) (memory_after n (d ∷ [])) l) (sym new) (judged_on t flows xs n d l g)) in
    ap₂ (λ a as'. a ∷ as') one rest

pub no_choice : NoChoice
unfolding JudgedFrom
no_choice t flows m n k l e f g = alike t flows [] m n k l e f g
