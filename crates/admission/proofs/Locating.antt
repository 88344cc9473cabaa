-- Where a packet lies by the header is where it lies by every base that the header is of; and what an answer that was handed on says.
-- Laws:
--   answers: cond_ok, cond_err, handed_on, some_of, none_of
--   the place: found_behind, found_ahead, found_location, FoundAt, found_at, at_side, out_side, out_other
use Rattle.std.specs.Prelude.{◌≡◌, ◌≤◌, ◌+◌, ◌<◌, ◌%◌, ◌^◌, ◌≢◌, Result, Ok, Err}
use Rattle.std.specs.Option.{ok_or}
use Rattle.std.specs.Result.{IsErrAnd}
use Rattle.words.specs.Words.{arith, ℕ, refl, ◌∙◌, ap, true, false, Bool, subst, le-leb, leb-true, lt-leb, leb, cond, Option, Some, None}
use Rattle.wire.specs.declared.Refusal.{Refusal}
use Rattle.wire.specs.declared.Refusal.TheVariants.{Behind, Ahead}
use Rattle.wire.specs.Numbers.{distance_of, number_of}
use Rattle.holding.specs.declared.Header.{Header}
use Rattle.admission.specs.declared.packet.Location.{Location}
use Rattle.history.specs.History.{Side, behind, ahead, side_of, Reading, fails, check, farthest, from_side}
use Rattle.history.proofs.Sides.{side_same, ahead_by}
use Rattle.admission.specs.Steps.{location_at, location_on, location_found}

-- An answer by a test.
pub cond_ok : {A E : Type 0} (t : Bool) (a : A) (e : E) {x : A} → Ok x ≡ cond t (Ok a) (Err e) → (t ≡ true) × (x ≡ a)
cond_ok true a e q = (refl, cc)
cond_ok false a e q = (cc, cc)

pub cond_err : {A E : Type 0} (t : Bool) (a : A) (e : E) {x : E} → Err x ≡ cond t (Ok a) (Err e) → (t ≡ false) × (x ≡ e)
cond_err true a e q = (cc, cc)
cond_err false a e q = (refl, cc)

-- What a `?` hands on.
pub handed_on : {T E : Type 0} {r : Result T E} {w : E} → IsErrAnd r (λ y. y ≡ w) → r ≡ Err w
handed_on {r = Ok x} h = absurd h
handed_on {r = Err y} h = rw h

-- What `ok_or` was given, by its answer.
pub some_of : {T E : Type 0} {o : Option T} {r : Result T E} {x : T} (e : E) → r ≡ ok_or o e → r ≡ Ok x → o ≡ Some x
some_of {o = None} e f g = cc
some_of {o = Some y} e f g = cc

pub none_of : {T E : Type 0} {o : Option T} {r : Result T E} {e y : E} → r ≡ ok_or o e → r ≡ Err y → (o ≡ None) × (y ≡ e)
none_of {o = None} f g = (refl, cc)
none_of {o = Some x} f g = (cc, cc)

-- What `locate` finds, by the side.
module _ (h : Header) (e n : ℕ) where
  pub found_behind : side_of h.esi.0 e ≡ behind → Err Behind ≡ location_found h e n
  unfolding location_found
  found_behind s = rw s

  module _ (d : ℕ) (s : side_of h.esi.0 e ≡ ahead d) where
    pub found_ahead : farthest < d + n → Err Ahead ≡ location_found h e n
    unfolding location_found
    found_ahead l = rw (s, lt-leb (d + n) farthest l)

    pub found_location : d + n ≤ farthest → Ok (location_at h d n) ≡ location_found h e n
    unfolding location_found
    found_location l = rw (s, le-leb (d + n) farthest l)

module _ (h : Header) (e n : ℕ) where
  -- How far past the base the packet begins.
  abbrev pub distance : ℕ
  distance = distance_of e (h.esi.0 % 2 ^ 32)

  -- A place that was found.
  pub record FoundAt (p : Location) : Type 0 where
    pub at : p ≡ location_at h distance n
    pub side : side_of h.esi.0 e ≡ ahead distance
    pub fits : distance + n ≤ farthest

  pub found_at : (p : Location) → Ok p ≡ location_found h e n → FoundAt p
  unfolding location_found
  found_at p q = on (side_of h.esi.0 e) refl q
    where
      on : (s : Side) → side_of h.esi.0 e ≡ s → Ok p ≡ location_on h n s → FoundAt p
      on behind s k = cc
      on (ahead d) s k =
          let (l, at) = cond_ok (leb (d + n) farthest) _ _ k in
          let i = (ahead_by h.esi.0 e d s).is in
          record {
            at = at ∙ ap (λ x. location_at h x n) i;
            side = s ∙ ap ahead i;
            fits = subst (λ x. x + n ≤ farthest) i (leb-true (d + n) farthest l);
          }

  -- Of every base with the header's ESI, that is the packet's place by the history.
  module _ (b : ℕ) (esi : b % 2 ^ 32 ≡ h.esi.0) (next : ℕ → Reading) where
    same_side : side_of b e ≡ side_of h.esi.0 e
    same_side = side_same b h.esi.0 e (omega (arith, esi))

    pub at_side : (p : Location) → FoundAt p → from_side n (side_of b e) next ≡ next distance
    unfolding from_side check
    at_side p l = rw (same_side, l.side, le-leb (distance + n) farthest l.fits)

    pub out_side : (r : Refusal) → Err r ≡ location_found h e n → from_side n (side_of b e) next ≡ fails (number_of r)
    unfolding location_found from_side check
    out_side r q = rw same_side (on (side_of h.esi.0 e) q)
      where
        on : (s : Side) → Err r ≡ location_on h n s → from_side n s next ≡ fails (number_of r)
        on behind k = let z : r ≡ Behind = cc in rw z refl
        on (ahead d) k = let (l, z) = cond_err (leb (d + n) farthest) _ _ k in rw (z, l) refl

  pub out_other : (r : Refusal) → Err r ≡ location_found h e n → number_of r ≢ 3
  unfolding location_found
  out_other r q = on (side_of h.esi.0 e) q
    where
      on : (s : Side) → Err r ≡ location_on h n s → number_of r ≢ 3
      on behind k = let z : r ≡ Behind = cc in rw z (λ y. omega arith)
      on (ahead d) k = let (_, z) = cond_err (leb (d + n) farthest) _ _ k in rw z (λ y. omega arith)
