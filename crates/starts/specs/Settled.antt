-- Marks in which the pass has nothing left to do, and what is to be known of a packet for that. A reader need not believe this.
use Rattle.std.specs.Prelude.{◌≡◌, ◌≤◌, ◌+◌, ◌<◌, ◌⊎◌}
use Rattle.words.specs.Words.{ℕ, List, Some, true, false}
use Rattle.starts.specs.Adu.{needs, View}
use Rattle.starts.specs.Starts.{Starts}

-- A marked known position k whose ADU is no longer than the window: where the ADU ends is in the window and not marked, or is past it and not noted.
pub record Open (E w : ℕ) (see : View) (noted : ℕ) (M : Starts) (k : ℕ) : Type 0 where
  pub bytes : List ℕ
  pub inside : k < w
  pub mark : M k ≡ true
  pub sees : see k ≡ Some bytes
  pub fits : needs E bytes ≤ w
  pub unmarked : k + needs E bytes ≤ w → M (k + needs E bytes) ≡ false
  pub unnoted : w < k + needs E bytes → noted ≡ 0

-- There is none.
abbrev pub Settled : (E w : ℕ) → View → (noted : ℕ) → Starts → Type 0
Settled E w see noted M = (k : ℕ) → ¬ Open E w see noted M k

-- After the base has risen, what is seen at positions other than the n from `first` on was seen before.
abbrev pub Old : (w rise first n : ℕ) (before after : View) → Type 0
Old w rise first n before after =
    (i : ℕ) (v : List ℕ) → i < w → (i < first) ⊎ (first + n ≤ i) → after i ≡ Some v → (rise + i < w) × (before (rise + i) ≡ Some v)

-- The positions that the marks M reach, up to the width.
pub data Reaches (E w : ℕ) (see : View) (M : Starts) : ℕ → Type 0 where
  seed : {j : ℕ} → M j ≡ true → Reaches E w see M j
  next : {i : ℕ} {v : List ℕ} → Reaches E w see M i → i < w → see i ≡ Some v → Reaches E w see M (i + needs E v)
