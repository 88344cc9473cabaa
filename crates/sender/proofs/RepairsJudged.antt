-- A call of make_repair is judged as the claims say.
-- Index
--   passes_range, fails_range, window_empty, window-some: the tests of the call
--   repairs_judged: the call
use Rattle.std.specs.Prelude.{◌≡◌, ◌∷◌, ◌||◌, Result}
use Rattle.words.specs.Words.{arith, ℕ, List, length, refl, ◌∙◌, sym, ap, [], true, false, Bool, subst}
use Rattle.words.specs.Words.{ltb, not, lt-ltb, le-ltb}
use Rattle.wire.specs.declared.Setting.{Setting}
use Rattle.wire.specs.Numbers.{within}
use Rattle.wire.specs.Settings.{Valid}
use Rattle.wire.proofs.Settings.{within_true, within_bounds}
use Rattle.wire.specs.Answers.{said}
use Rattle.sender.specs.State.{Sender, window, header_of, Holds}
use Rattle.sender.specs.Calls.{done, repairing}
use Rattle.sender.specs.Promises.{answer_of, draws_in, Follows, RepairMade}
use Rattle.sender.specs.Judged.{Ranged, packet_of, RepairJudged}
use Rattle.sender.proofs.Repairing.{repairing_range, repairing_empty, repairing_short, repairing_draws, repairing_done}
use Rattle.sender.proofs.Ring.{below}
use Rattle.sender.proofs.Taking.{held_is}
use Rattle.sender.proofs.Saying.{refuses, writes, packet-is, found, draws_are}
use Rattle.wire.specs.declared.Refusal.{Refusal}

-- ---- the tests

length-nil : (l : List (List ℕ)) → length l ≡ 0 → l ≡ []
length-nil [] e = refl
length-nil (x ∷ l) e = absurd (omega arith)

not_so : (b : Bool) → ¬ (b ≡ true) → b ≡ false
not_so true n = absurd (n refl)
not_so false n = refl

passes_range : (dt count : ℕ) → Ranged dt count → (ltb 15 dt || not (within 1 16 count)) ≡ false
passes_range dt count k = rw (le-ltb 15 dt k.0, within_true 1 16 count k.1 k.2)

fails_range : (dt count : ℕ) → ¬ Ranged dt count → (ltb 15 dt || not (within 1 16 count)) ≡ true
fails_range dt count n =
    below 15 dt (λ l. rw (lt-ltb 15 dt l))
    (λ l. let w : within 1 16 count ≡ false = not_so _ (λ e. let b = within_bounds 1 16 count e in n (l, b.0, b.1)) in rw (le-ltb 15 dt l, w))

module _ (t : Setting) (v : Valid t) (flows : List ℕ) (xs : List (List ℕ)) where
  abbrev holding : Sender
  holding = record { setting = t; flows = flows; symbols = xs }

  -- ---- making repair

  window_empty : xs ≡ [] → length (window holding) ≡ 0
  window_empty e = held_is holding ∙ omega (arith, ap length e)

  window-some : ¬ (xs ≡ []) → length (window holding) ≡ 0 → ⊥
  window-some n e = n (length-nil xs (omega (arith, sym (held_is holding) ∙ e, v.width_least)))

  pub repairs_judged : (key dt count : ℕ) (m out : List ℕ) (r : Result (ℕ × ℕ) Refusal) (out' : List ℕ) → Holds m holding → RepairMade key dt count m out r out'
      → RepairJudged t xs m key dt count out (said (answer_of r)) (draws_in r) out'
  repairs_judged key dt count m out r out' h p =
      let o = repairing holding key dt count (length out) in
      let f = p.repairs.follows holding h in
      let g = passes_range dt count in
      let i = header_of holding in
      record {
        range = λ n. refuses 6 o m m out out' (answer_of r) (repairing_range key dt count (length out) holding (fails_range dt count n)) f;
        empty = λ k e. refuses 7 o m m out out' (answer_of r) (repairing_empty key dt count (length out) holding (g k) i refl (window_empty e)) f;
        short = λ k e l. refuses 2 o m m out out' (answer_of r) (repairing_short key dt count (length out) holding (g k) i refl (window-some e) l) f;
        draws_fail = λ k e l d. refuses 10 o m m out out' (answer_of r)
            (repairing_draws key dt count (length out) holding (g k) i refl (window-some e) l (found t v flows xs key dt count false (not_so _ d))) f;
        makes = λ k e l d.
            let c = repairing_done key dt count (length out) holding (g k) i refl (window-some e) l (found t v flows xs key dt count true d) in
            let w = subst (λ x. Follows x m out (answer_of r) m out') (c ∙ ap (λ x. done x holding) (packet-is t v flows xs key dt count)) f in
            let a = writes (packet_of t xs key dt count) holding m m out out' (answer_of r) w in
            (a, draws_are t v flows xs key dt count m out' r _ h p.draws a.answer);
      }
