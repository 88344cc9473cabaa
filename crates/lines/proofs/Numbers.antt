-- Laws of a number that is read at the front of a line, a digit at a time.
use Rattle.std.specs.Prelude.{◌≡◌, ◌≤◌, ◌+◌, ◌<◌, ◌-◌, ◌*◌, ◌∷◌}
use Rattle.words.specs.Words.{arith, ℕ, List, length, refl, ◌∙◌, sym, [], Some, true, None, get_or}
use Rattle.words.specs.Words.{false, Option, drop, take, le-leb, add-one, lt-leb, ne_eqb, drop-cons}
use Rattle.words.specs.Words.{length-drop}
use denote.Ref.{Bor}
use lib.ListN.{drop_of_length-le}
use Rattle.std.proofs.lemmas.List.{take_all}
use Rattle.wire.proofs.Settings.{within_true}
use Rattle.lines.specs.Reading.{Numbered, is_digit, number_from, number_in}
use Rattle.lines.specs.Inner.{numbered, NumberRead, Small}

module _ (line : List ℕ) (most i : ℕ) where
  -- the number ends at the line's end
  pub at_end : (v : ℕ) → length line ≤ i → number_from most v (drop i line) ≡ Some (record { value = v; rest = drop i line })
  unfolding number_from
  at_end v h = rw (drop_of_length-le line h)

  -- or at a byte that is no digit
  pub no_digit : (v : ℕ) → i < length line → is_digit (get_or line i 0) ≡ false
      → number_from most v (drop i line) ≡ Some (record { value = v; rest = drop i line })
  unfolding number_from
  no_digit v h e = rw (drop-cons line i 0 h, e)

  -- a digit that makes it too large
  pub too_large : (v : ℕ) → i < length line → is_digit (get_or line i 0) ≡ true → most < v * 10 + (get_or line i 0 - 48)
      → number_from most v (drop i line) ≡ None
  unfolding number_from
  too_large v h e k = rw (drop-cons line i 0 h, e, lt-leb _ _ k)

  -- a digit that does not
  pub one-digit : (v : ℕ) → i < length line → is_digit (get_or line i 0) ≡ true → v * 10 + (get_or line i 0 - 48) ≤ most
      → number_from most (v * 10 + (get_or line i 0 - 48)) (drop (i + 1) line) ≡ number_from most v (drop i line)
  unfolding number_from
  one-digit v h e k = rw (add-one, drop-cons line i 0 h, e, le-leb _ _ k)

-- what is left of a line from a place on
pub rest_is : (i : ℕ) (line : List ℕ) → take (length line - i) (drop i line) ≡ drop i line
rest_is i line = take_all _ (drop i line) (rw length-drop (omega arith))

-- a number was read
pub number_ends : {line : List ℕ} {most v : ℕ} {o : Option Numbered} {rest : Bor (List ℕ)} (i : ℕ)
    → o ≡ Some (record { value = v; rest = drop i line }) → v ≤ most → rest.now ≡ take (length line - i) (drop i line)
    → NumberRead line most o (Some (v, rest))
number_ends {line} i e h k = record { number = sym (rw (← rest_is i line, ← k) at e); small = (h, rw (k, rest_is i line, length-drop) (omega arith)) }

-- and within a longer line
pub number_within : (l line : List ℕ) {most : ℕ} {o : Option Numbered} {r : Option (ℕ × Bor (List ℕ))} → length l ≤ length line → numbered r ≡ o
    → Small l most r → NumberRead line most o r
number_within l line {most} {r = r} k e h = record { number = e; small = go r h }
  where
    go : (r : Option (ℕ × Bor (List ℕ))) → Small l most r → Small line most r
    go (Some (v, rest)) h = (h.0, omega (arith, h.1))
    go None h = tt

-- at the front of a line: a zero is a number by itself
pub zero-read : (most : ℕ) (line : List ℕ) → 1 ≤ length line → get_or line 0 0 ≡ 48
    → number_in most line ≡ Some (record { value = 0; rest = drop 1 line })
unfolding number_in
zero-read most [] l h = absurd (omega arith)
zero-read most (b ∷ line) l h = rw h

-- another digit begins one
pub begun : {most : ℕ} {line : List ℕ} {r : Option (ℕ × Bor (List ℕ))} → 1 ≤ length line → (get_or line 0 0 ≡ 48 → ⊥) → 48 ≤ get_or line 0 0
    → get_or line 0 0 ≤ 57
    → NumberRead (take (length line - 1) (drop 1 line)) most (number_from most (get_or line 0 0 - 48) (take (length line - 1) (drop 1 line))) r
    → NumberRead line most (number_in most line) r
unfolding number_in
begun {most} {line} {r} l n h k e = go line l n h k (rw rest_is at e)
  where
    go : (line : List ℕ) → 1 ≤ length line → (get_or line 0 0 ≡ 48 → ⊥) → 48 ≤ get_or line 0 0 → get_or line 0 0 ≤ 57
        → NumberRead (drop 1 line) most (number_from most (get_or line 0 0 - 48) (drop 1 line)) r → NumberRead line most (number_in most line) r
    go [] l n h k e = absurd (omega arith)
    go (b ∷ line) l n h k e = number_within line (b ∷ line) (omega arith) (e.number ∙ rw (within_true 48 57 b h k, ne_eqb b 48 n)) e.small

-- and nothing else
pub no_number : (most : ℕ) (line : List ℕ) → (1 ≤ length line → is_digit (get_or line 0 0) ≡ false) → number_in most line ≡ None
unfolding number_in
no_number most [] h = refl
no_number most (b ∷ line) h = rw (h (omega arith))
