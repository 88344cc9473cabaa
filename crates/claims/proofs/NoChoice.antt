-- Two receivers that meet demand 3 answer the same calls alike.
use Rattle.std.specs.Prelude.{◌≡◌, ◌∷◌, ◌++◌}
use Rattle.words.specs.Words.{ℕ, List, refl, ap, [], subst, ap₂, map}
use Rattle.wire.specs.declared.Setting.{Setting}
use Rattle.wire.specs.Answers.{said}
use Rattle.history.specs.History.{Log, fresh, read_after, logged, Judged}
use Rattle.history.proofs.Counting.{judged_once}
use Rattle.claims.specs.Run.{Step, read, goes_on}
use Rattle.claims.specs.NoChoice.{Alike, NoChoice}

judged_from : Setting → (flows : List ℕ) → Log → List Step → Type 0
judged_from s flows l ts =
    (before : List Step) (t : Step) (after : List Step) → ts ≡ before ++ (t ∷ after)
    → Judged s (goes_on s flows l before) (read s flows (goes_on s flows l before) t) (said t.answer)

alike : (s : Setting) (flows : List ℕ) (ts us : List Step) (l : Log) → Alike ts us → judged_from s flows l ts → judged_from s flows l us
    → map (λ t. said t.answer) ts ≡ map (λ u. said u.answer) us
unfolding judged_from
alike s flows [] [] l e f g = refl
alike s flows [] (u ∷ us) l e f g = absurd e
alike s flows (t ∷ ts) [] l e f g = absurd e
alike s flows (t ∷ ts) (u ∷ us) l e f g =
    let same : read s flows l t ≡ read s flows l u = ap₂ (λ c n. read_after s flows l n c) e.0 e.1 in
    let one : said t.answer ≡ said u.answer =
    judged_once s l (read s flows l u) _ _ (subst (λ r. Judged s l r (said t.answer)) same (f [] t ts refl)) (g [] u us refl) in
    let on : logged s l (read s flows l t) (said t.answer) ≡ logged s l (read s flows l u) (said u.answer) = ap₂ (λ r a. logged s l r a) same one in
    let rest = alike s flows ts us (logged s l (read s flows l u) (said u.answer)) e.2
    (subst (λ x. judged_from s flows x ts) on (λ before v after p. f (t ∷ before) v after (ap (λ x. t ∷ x) p)))
    (λ before v after p. g (u ∷ before) v after (ap (λ x. u ∷ x) p)) in
    ap₂ (λ a as'. a ∷ as') one rest

pub no_choice : NoChoice
unfolding judged_from
no_choice s flows ts us e f g = alike s flows ts us fresh e f g
