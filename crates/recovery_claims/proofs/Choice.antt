-- Two recoveries that meet what is claimed answer the same calls alike.
use Rattle.std.specs.Prelude.{◌≡◌, ◌∷◌, ◌++◌}
use Rattle.words.specs.Words.{ℕ, List, refl, ◌∙◌, sym, ap, ap₂, [], subst, map}
use Rattle.wire.specs.Answers.{Said, value, refusal, said}
use Rattle.history.proofs.Counting.{counted_once}
use Rattle.claims.specs.Run.{Step}
use Rattle.claims.specs.NoChoice.{Alike}
use Rattle.recovery.specs.Block.{Packet}
use Rattle.blocks.specs.declared.Block.{Block}
use Rattle.block_receiver.specs.Reading.{Reading, fails, located, reading}
use Rattle.recovery_claims.specs.Run.{logged, read, goes_on}
use Rattle.recovery_claims.specs.Judged.{CallJudged}
use Rattle.recovery_claims.specs.Choice.{NoChoice}

module _ (b : Block) where
  -- A packet that passes the checks and is refused is refused with 11.
  stopped : (ps : List Packet) (p : Packet) (n : ℕ) → CallJudged b ps (located p) (refusal n) → refusal n ≡ refusal 11
  stopped ps p n h = (h.contradicts p refl).1 (λ c. h.accepted.1 (p, refl, c))

  judged_once : (ps : List Packet) (r : Reading) (a c : Said) → CallJudged b ps r a → CallJudged b ps r c → a ≡ c
  judged_once ps (fails m) a c h k = h.failed m refl ∙ sym (k.failed m refl)
  judged_once ps (located p) (value m) (value n) h k = ap value (counted_once (h.counted p m refl refl) (k.counted p n refl refl))
  judged_once ps (located p) (value m) (refusal n) h k = absurd (k.accepted.1 (h.accepted.0 tt))
  judged_once ps (located p) (refusal m) (value n) h k = absurd (h.accepted.1 (k.accepted.0 tt))
  judged_once ps (located p) (refusal m) (refusal n) h k = stopped ps p m h ∙ sym (stopped ps p n k)

  abbrev judged_from : List Packet → List Step → Type 0
  judged_from ps ts =
      (before : List Step) (t : Step) (after : List Step) → ts ≡ before ++ (t ∷ after) → CallJudged b (goes_on b ps before) (read b t) (said t.answer)

  alike : (ts us : List Step) (ps : List Packet) → Alike ts us → judged_from ps ts → judged_from ps us → map (λ t. said t.answer) ts ≡ map (λ u. said u.answer) us
  alike [] [] ps e f g = refl
  alike [] (u ∷ us) ps e f g = absurd e
  alike (t ∷ ts) [] ps e f g = absurd e
  alike (t ∷ ts) (u ∷ us) ps e f g =
      let same : read b t ≡ read b u = ap₂ (λ c n. reading b n c) e.0 e.1 in
      let one : said t.answer ≡ said u.answer =
      judged_once ps (read b u) _ _ (subst (λ r. CallJudged b ps r (said t.answer)) same (f [] t ts refl)) (g [] u us refl) in
      let on : logged ps (read b t) (said t.answer) ≡ logged ps (read b u) (said u.answer) = ap₂ (λ r a. logged ps r a) same one in
      let rest = alike ts us (logged ps (read b u) (said u.answer)) e.2
      (subst (λ x. judged_from x ts) on (λ before v after p. f (t ∷ before) v after (ap (λ x. t ∷ x) p)))
      (λ before v after p. g (u ∷ before) v after (ap (λ x. u ∷ x) p)) in
      ap₂ (λ a as'. a ∷ as') one rest

pub no_choice : NoChoice
no_choice b ts us e f g = alike b ts us [] e f g
