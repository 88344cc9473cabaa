-- Counting from the front, as the model does, and from the end, as the history says it; a count has one value, and so has an answer.
use Rattle.std.specs.Prelude.{◌≡◌, ◌+◌, ◌↔◌}
use Rattle.words.specs.Words.{arith, ℕ, refl, ◌∙◌, sym, ap, Some, suc, zero, None, subst, Option}
use Rattle.wire.specs.declared.Setting.{Setting}
use Rattle.decoder.specs.Model.{tail}
use Rattle.decoder.specs.Receiver.{Accepted, is_new, count_new}
use Rattle.wire.specs.Answers.{Said, value, refusal}
use Rattle.history.specs.History.{Counted, nothing, has, lacks, Located, Reading, fails, located, Log, Judged}

first_has : (P : ℕ → Type 0) {n k : ℕ} → P 0 → Counted (λ i. P (suc i)) n k → Counted P (suc n) (suc k)
first_has P p nothing = has p nothing
first_has P p (has q c) = has q (first_has P p c)
first_has P p (lacks q c) = lacks q (first_has P p c)

first_lacks : (P : ℕ → Type 0) {n k : ℕ} → ¬ P 0 → Counted (λ i. P (suc i)) n k → Counted P (suc n) k
first_lacks P p nothing = lacks p nothing
first_lacks P p (has q c) = has q (first_lacks P p c)
first_lacks P p (lacks q c) = lacks q (first_lacks P p c)

pub count_counted : {A : Type 0} (m : ℕ) (now before : ℕ → Option A) (P : ℕ → Type 0)
    → ((i : ℕ) → P i ↔ (Accepted (now i) × ¬ Accepted (before i))) → Counted P m (count_new m now before)
unfolding count_new is_new
count_counted zero now before P e = nothing
count_counted {A} (suc m) now before P e =
    go (now 0) (before 0) (count_new m (tail now) (tail before)) (e 0)
    (count_counted m (tail now) (tail before) (λ i. P (suc i)) (λ i. e (suc i)))
  where
    go : (a b : Option A) (k : ℕ) → P 0 ↔ (Accepted a × ¬ Accepted b) → Counted (λ i. P (suc i)) m k → Counted P (suc m) (is_new a b + k)
    go None b k e c = let z : k ≡ 0 + k = omega arith in subst (Counted P (suc m)) z (first_lacks P (λ p. (e.0 p).0) c)
    go (Some x) None k e c = let z : suc k ≡ 1 + k = omega arith in subst (Counted P (suc m)) z (first_has P (e.1 (tt, λ b. b)) c)
    go (Some x) (Some y) k e c = let z : k ≡ 0 + k = omega arith in subst (Counted P (suc m)) z (first_lacks P (λ p. (e.0 p).1 tt) c)

-- A count has one value.
pub counted_once : {P : ℕ → Type 0} {n k m : ℕ} → Counted P n k → Counted P n m → k ≡ m
counted_once nothing nothing = refl
counted_once (has p c) (has q d) = ap suc (counted_once c d)
counted_once (has p c) (lacks q d) = absurd (q p)
counted_once (lacks p c) (has q d) = absurd (p q)
counted_once (lacks p c) (lacks q d) = counted_once c d

-- The history leaves no choice of the answer.
module _ (s : Setting) (l : Log) where
  stopped : (q : Located) (m : ℕ) → Judged s l (located q) (refusal m) → refusal m ≡ refusal 11
  stopped q m h = (h.contradicts q refl).1 (λ c. h.accepted.1 (q, refl, c))

  pub judged_once : (r : Reading) (a b : Said) → Judged s l r a → Judged s l r b → a ≡ b
  judged_once (fails m) a b h k = h.failed m refl ∙ sym (k.failed m refl)
  judged_once (located q) (value m) (value n) h k = ap value (counted_once (h.counted q m refl refl) (k.counted q n refl refl))
  judged_once (located q) (value m) (refusal n) h k = absurd (k.accepted.1 (h.accepted.0 tt))
  judged_once (located q) (refusal m) (value n) h k = absurd (h.accepted.1 (k.accepted.0 tt))
  judged_once (located q) (refusal m) (refusal n) h k = stopped q m h ∙ sym (stopped q n k)
