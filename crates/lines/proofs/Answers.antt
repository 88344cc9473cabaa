-- What the answers of the functions that read say of what was to be read.
use Rattle.std.specs.Prelude.{◌≡◌, ◌≤◌, ◌∷◌, ◌==◌}
use Rattle.words.specs.Words.{arith, ℕ, List, length, refl, ◌∙◌, sym, ap, [], true, false, eqb-true, Some, None, Option, take}
use denote.Ref.{Bor}
use Rattle.lines.specs.Reading.{Numbered, whole}
use Rattle.lines.specs.Inner.{numbered, NumberRead, bytes_of, BytesRead}

module _ {l : List ℕ} {most : ℕ} {o : Option Numbered} {r : Option (ℕ × Bor (List ℕ))} (h : NumberRead l most o r) where
  -- a number was read
  pub number-some : {v : ℕ} {rest : Bor (List ℕ)} → r ≡ Some (v, rest) → o ≡ Some (record { value = v; rest = rest.now })
  number-some e = sym h.number ∙ ap numbered e

  -- within its limits
  pub number_small : {v : ℕ} {rest : Bor (List ℕ)} → r ≡ Some (v, rest) → (v ≤ most) × (length rest.now ≤ length l)
  number_small e = rw e at h.small

  -- none was
  pub number-none : r ≡ None → o ≡ None
  number-none e = sym h.number ∙ ap numbered e

module _ {p : List ℕ} {o : Option (List ℕ)} {r : Option ℕ} (h : BytesRead p o r) where
  -- bytes were read
  pub bytes-some : {n : ℕ} → r ≡ Some n → o ≡ Some (take n p)
  bytes-some e = sym h.bytes ∙ ap (bytes_of p) e

  -- as many as there is room for
  pub bytes_fit : {n : ℕ} → r ≡ Some n → n ≤ length p
  bytes_fit e = rw e at h.fits

  -- none were
  pub bytes-none : r ≡ None → o ≡ None
  bytes-none e = sym h.bytes ∙ ap (bytes_of p) e

-- nothing of the line is left, or something
pub nothing_left : {A : Type 0} (a : A) (l : List ℕ) → true ≡ (length l == 0) → whole a l ≡ Some a
nothing_left a [] e = refl
nothing_left a (b ∷ l) e = absurd (omega (arith, eqb-true (length (b ∷ l)) 0 (sym e)))

pub something_left : {A : Type 0} (a : A) (l : List ℕ) → false ≡ (length l == 0) → whole a l ≡ None
something_left a [] e = cc
something_left a (b ∷ l) e = refl
