-- From where a symbol was found to what the call for its place promises.
use Rattle.std.specs.Prelude.{◌≡◌, ◌≤◌, ◌+◌, Ok, Err}
use Rattle.words.specs.Words.{ℕ, length, List, refl, sym, ap, subst}
use Rattle.memory.specs.Part.{part}
use Rattle.wire.specs.declared.Refusal.{Refusal}
use Rattle.history.specs.Symbol.{bytes_of}
use Rattle.wire.specs.Answers.{Said, value, refusal}
use Rattle.history.specs.History.{IsValue}
use Rattle.receiver.specs.Promises.{Places, PlaceAnswered}
use Rattle.receiver.specs.Layout.{receiver_layout}
use Rattle.holding.specs.Inner.{Spotted}
use Rattle.holding.proofs.Finding.{IsNowhere}
use Rattle.receiver.proofs.Showing.{missing_answers}
use Rattle.holding.specs.declared.Spot.{Spot}

-- The number that an answer says.
abbrev number : Said → ℕ
number (value n) = n
number (refusal n) = n

module _ (m : List ℕ) (e : ℕ) where
  pub place_found : (spot : Spot) → Spotted m e (Ok spot) → PlaceAnswered receiver_layout m e (Ok spot.at)
  place_found spot f = record {
    unopened = ((λ z. absurd (subst IsValue z tt)), (λ z. absurd (subst IsNowhere (sym (f.unopened z)) tt)));
    within = λ x at k z.
        subst (λ y. y + x.setting.size ≤ length m) (ap number z) (subst (λ y. spot.at + y ≤ length m) (f.lies x k).0 (f.lies x k).1);
    places = λ s flows t k.
        let (p, v, x, c, y, z, o) = f.told s t k.holds in
        subst (λ o. Places receiver_layout s o m (Ok spot.at)) (sym x)
        (ap value y, subst (λ j. part j s.size m ≡ bytes_of s.size v) y (subst (λ j. part spot.at j m ≡ bytes_of s.size v) z (sym c)));
  }

  pub place_missing : (x : Refusal) → Spotted m e (Err x) → PlaceAnswered receiver_layout m e (Err x)
  place_missing x f = record {
    unopened = (missing_answers m e x f).unopened;
    within = λ y at k z. absurd (subst IsValue (sym z) tt);
    places = λ s flows t k. subst (λ o. Places receiver_layout s o m (Err x)) (sym (f.told s t k.holds)) refl;
  }
