-- Tests that are joined.
use Rattle.std.specs.Prelude.{◌≡◌, ◌≤◌, ◌+◌, ◌↔◌, ◌&&◌, ◌⊎◌, ◌||◌}
use Rattle.words.specs.Words.{ℕ, refl, true, false, Bool, leb, eqb, le-leb, inr, eq-eqb, inl, leb-true, eqb-true}
use mathlib.Core.Bool.{false≢true}
use Rattle.starts.specs.Starts.{Starts, also, moved}

pub or_true : (a b : Bool) → (a || b ≡ true) ↔ ((a ≡ true) ⊎ (b ≡ true))
or_true true b = ((λ _. inl refl), (λ _. refl))
or_true false b = ((λ e. inr e), go)
  where
    go : (false ≡ true) ⊎ (b ≡ true) → b ≡ true
    go (inl e) = absurd (false≢true e)
    go (inr e) = e

pub and-true : (a b : Bool) → (a && b ≡ true) ↔ ((a ≡ true) × (b ≡ true))
and-true true b = ((λ e. (refl, e)), (λ p. p.1))
and-true false b = ((λ e. absurd (false≢true e)), (λ p. p.0))

-- One more mark.
pub also_true : (j : ℕ) (M : Starts) (i : ℕ) → (also j M i ≡ true) ↔ ((i ≡ j) ⊎ (M i ≡ true))
also_true j M i = ((λ e. there ((or_true (eqb i j) (M i)).0 e)), (λ a. (or_true (eqb i j) (M i)).1 (back a)))
  where
    there : (eqb i j ≡ true) ⊎ (M i ≡ true) → (i ≡ j) ⊎ (M i ≡ true)
    there (inl e) = inl (eqb-true i j e)
    there (inr e) = inr e

    back : (i ≡ j) ⊎ (M i ≡ true) → (eqb i j ≡ true) ⊎ (M i ≡ true)
    back (inl e) = inl (eq-eqb i j e)
    back (inr e) = inr e

-- The marks that stay when the base rises.
pub moved_true : (width rise : ℕ) (M : Starts) (i : ℕ) → (moved width rise M i ≡ true) ↔ ((rise + i ≤ width) × (M (rise + i) ≡ true))
moved_true width rise M i =
    let b = and-true (leb (rise + i) width) (M (rise + i)) in (
      (λ e. (leb-true (rise + i) width (b.0 e).0, (b.0 e).1)),
      (λ p. b.1 (le-leb (rise + i) width p.0, p.1)),
    )
