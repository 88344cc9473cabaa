-- From what the code reads in the memory to what the ADU call promises.
use Rattle.std.specs.Prelude.{◌≡◌, ◌%◌, ◌^◌, ◌≢◌, Result, Ok, Err}
use Rattle.words.specs.Words.{ℕ, length, List, refl, ◌∙◌, sym, ap, Some, None, subst, lt-ltb, none-ne-some}
use Rattle.wire.specs.declared.Refusal.{Refusal}
use Rattle.wire.specs.Numbers.{number_of}
use Rattle.wire.specs.Flows.{flows_in}
use Rattle.starts.specs.Adu.{need, handing, HandedAs}
use Rattle.starts.specs.Starts.{Starts, seen}
use Rattle.table.specs.declared.Shape.{Shape}
use Rattle.handing.specs.Promises.{HandedOut}
use Rattle.holding.specs.declared.Header.{Header}
use Rattle.wire.specs.Answers.{refusal}
use Rattle.history.specs.Model.{Joined, adu_at}
use Rattle.holding.specs.Header.{header_in}
use Rattle.receiver.specs.Promises.{handed_said, AduAnswered}
use Rattle.holding.specs.Layout.{Marks}
use Rattle.receiver.specs.Layout.{receiver_layout}
use Rattle.history.proofs.Cases.{IsRefusal, numeral}
use Rattle.holding.proofs.Headers.{of-joined}
use Rattle.holding.proofs.Standing.{InWindow, Stood, Hidden, side_held}
use Rattle.holding.proofs.Finding.{by_header}
use Rattle.marks.specs.Marks as marks

-- An ADU, or a refusal with another number, does not say 3.
not_three : (r : Result (ℕ × ℕ) Refusal) → ((x : Refusal) → r ≡ Err x → number_of x ≢ 3) → handed_said r ≢ refusal 3
not_three (Ok (flow, L)) f z = subst IsRefusal (sym z) tt
not_three (Err x) f z = f x refl (ap numeral z)

-- Outside the window.
pub adu-outside : (m out : List ℕ) (e : ℕ) (x : Refusal) → Hidden m e x → AduAnswered receiver_layout m e out out (Err x)
adu-outside m out e x g = record {
  unopened = (
    (λ q. by_header m (header_in m ≡ None) (λ h k. absurd (g.opened h k (ap numeral q))) (λ k. k)),
    (λ k. ap (λ y. refusal (number_of y)) (g.unopened k)),
  );
  leaves = refl;
  hands = λ s flows t M k l. subst (λ y. HandedAs y out out (Err x)) (sym (g.adu s t k.holds flows M (length out))) (refl, refl);
}

module _ (m out : List ℕ) (e d : ℕ) (h : Header) (stands : InWindow m e d h) where
  open h.setting use {width, size}

  -- In the window the call is that of the window's d-th position.
  inner : (flows : List ℕ) (t : Joined h.setting) (M : Starts) → h.esi.0 ≡ t.base % 2 ^ 32
      → adu_at h.setting flows (Some t) M (length out) e ≡ handing size width flows (length out) M (seen size width t.window) d
  unfolding adu_at need
  inner flows t M b = rw (side_held e t.base h b, stands.side, lt-ltb d width stands.inside)

  inside : (out' : List ℕ) (r : Result (ℕ × ℕ) Refusal) → HandedOut width size h.oldest d m out out' r → AduAnswered receiver_layout m e out out' r
  inside out' r g = record {
    unopened = ((λ z. absurd (not_three r g.opened z)), (λ z. absurd (none-ne-some h (sym z ∙ stands.has))));
    leaves = g.leaves;
    hands = λ s flows t M v l.
        subst (λ f. HandedAs (adu_at s f t M (length out) e) out out' r) v.kept
        (of-joined m h stands.has stands.joined (λ s t. Marks m s t M → HandedAs (adu_at s (flows_in m) t M (length out) e) out out' r)
        (λ t v a b l.
        subst (λ y. HandedAs y out out' r) (sym (inner (flows_in m) t M b))
        (g.told t.base t.window M (sym a) v.rows (subst (λ y. marks.Marks width size y m M) (sym a) l.bytes))) s t v.holds l);
  }

-- With the shape as the code has it.
pub adu-inside : (m out : List ℕ) (e d : ℕ) (shape : Shape) → Stood m e d shape → (out' : List ℕ) (r : Result (ℕ × ℕ) Refusal)
    → HandedOut shape.width shape.size shape.oldest d m out out' r → AduAnswered receiver_layout m e out out' r
adu-inside m out e d shape g out' r f =
    inside m out e d g.header g.window out' r (subst (λ (x : Shape). HandedOut x.width x.size x.oldest d m out out' r) g.is f)
