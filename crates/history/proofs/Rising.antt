-- The base after a packet call is where the packet's bytes say.
use Rattle.std.specs.Prelude.{◌≡◌, ◌+◌, ◌-◌}
use Rattle.words.specs.Words.{arith, ℕ, List, max, refl, sym, ap, ◌∙◌, Some, None, Option}
use Rattle.wire.specs.declared.Setting.{Setting}
use Rattle.wire.specs.Settings.{Valid}
use Rattle.wire.specs.Packets.{symbol_count, source_adu}
use Rattle.wire.specs.Answers.{Said, value, refusal}
use Rattle.wire.proofs.Adui.{symbols_count}
use Rattle.history.specs.History.{Located, first, named, Call, source-call, repair-call, OfBytes, esi_of, Reading, fails, located, reading, base_for, Log}
use Rattle.history.specs.History.{IsValue, raised, base_of, read_after, logged, Judged}
use Rattle.history.specs.Checking.{distance, named_by}
use Rattle.history.specs.Rising.{ends_at, BaseAfter, BaseRaised}
use Rattle.history.proofs.Readings.{source-read, repair-read, reading_passed, reading_fits, joins_at}
use Rattle.history.proofs.Checking.{adu-length}

-- A packet that has passed the checks begins and ends where its bytes say.
lies_at : (s : Setting) (flows : List ℕ) (b room : ℕ) (c : Call) (q : Located) → reading s flows b room c ≡ located q
    → (first q ≡ b + distance b c) × (named q ≡ named_by s c)
unfolding symbol_count
lies_at s flows b room (source-call flow p) q h =
    let r = source-read s flows b flow p q (reading_passed s flows b room (source-call flow p) q h) in
    (ap first (sym r.says), ap named (sym r.says) ∙ symbols_count flow (source_adu p) s.size ∙ rw (adu-length p))
lies_at s flows b room (repair-call p) q h =
    let r = repair-read s b p q (reading_passed s flows b room (repair-call p) q h) in
    (ap first (sym r.says), ap named (sym r.says))

module _ (s : Setting) (v : Valid s) (flows : List ℕ) (l : Log) (room : ℕ) (c : Call) (bytes : OfBytes c) where
  -- What is read of the call, at the base that it finds.
  at_base : (o : Option ℕ) → base_of s l ≡ o → read_after s flows l room c ≡ reading s flows (base_for o (esi_of c)) room c
  at_base o e = ap (λ o. reading s flows (base_for o (esi_of c)) room c) e

  module _ (q : Located) (x : read_after s flows l room c ≡ located q) where
    accepted : (a : Said) → IsValue a → base_of s (logged s l (read_after s flows l room c) a) ≡ Some (raised s (base_of s l) q)
    accepted (value n) i = ap (λ r. base_of s (logged s l r (value n))) x
    accepted (refusal n) i = absurd i

    joined : base_of s l ≡ None → raised s (base_of s l) q ≡ esi_of c
    joined e =
        let h = sym (at_base None e) ∙ x in
        let f = joins_at s flows room c q bytes h in
        let w = (reading_fits s flows (omega (arith, v.size_least)) (esi_of c) room c q bytes h).short in
        ap (λ o. raised s o q) e ∙ omega (arith, f, w)

    rose : (b : ℕ) → base_of s l ≡ Some b → raised s (base_of s l) q ≡ max b (ends_at s b c - s.width)
    rose b e =
        let (f, n) = lies_at s flows b room c q (sym (at_base (Some b) e) ∙ x) in
        ap (λ o. raised s o q) e ∙ omega (arith, f, n)

  stays : (r : Reading) (a : Said) (n : ℕ) → a ≡ refusal n → base_of s (logged s l r a) ≡ base_of s l
  stays (fails m) a n e = refl
  stays (located q) a n e = ap (λ a. base_of s (logged s l (located q) a)) e

  base_after : (a : Said) → Judged s l (read_after s flows l room c) a → BaseAfter s (base_of s l) c a (base_of s (logged s l (read_after s flows l room c) a))
  base_after a j = record {
    joins = λ e i. let (q, x, k) = j.accepted.0 i in accepted q x a i ∙ ap Some (joined q x e);
    rises = λ b e i. (
      max b (ends_at s b c - s.width),
      outright b e i,
      record { rises = omega arith; fits = omega arith; least = λ x h k. omega arith },
    );
    outright = outright;
    refused = stays (read_after s flows l room c) a;
  }
    where
      outright : (b : ℕ) → base_of s l ≡ Some b → IsValue a → base_of s (logged s l (read_after s flows l room c) a) ≡ Some (max b (ends_at s b c - s.width))
      outright b e i = let (q, x, k) = j.accepted.0 i in accepted q x a i ∙ ap Some (rose q x b e)

pub base_raised : BaseRaised
base_raised = base_after
