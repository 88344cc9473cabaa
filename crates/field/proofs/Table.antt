-- A rule of a table, proved at all of its entries by one test that antt computes, one entry after the other.
use Rattle.std.specs.Prelude.{◌+◌, ◌<◌, ◌∷◌, ◌&&◌}
use Rattle.words.specs.Words.{ℕ, List, length, ◌∙◌, sym, [], suc, true, zero, get_or, Bool, subst, add-zero, not-suc-le-zero, zero-add}
use Rattle.words.specs.Words.{le_of_suc-le-suc, add-suc, suc-add}
use lib.Dec.{T}
use lib.Ieee.Fits.{and_l, and_r}

-- the test f passes at each entry of the list and its place, counted from i
abbrev pub every : (ℕ → ℕ → Bool) → ℕ → List ℕ → Bool
every f i [] = true
every f i (x ∷ xs) = f i x && every f (suc i) xs

from : (f : ℕ → ℕ → Bool) (xs : List ℕ) (i : ℕ) → T (every f i xs) → (k : ℕ) → k < length xs → T (f (i + k) (get_or xs k 0))
from f [] i t k h = absurd (not-suc-le-zero h)
from f (x ∷ xs) i t zero h = subst (λ (m : ℕ). T (f m x)) (sym (add-zero i)) (and_l (f i x) (every f (suc i) xs) t)
from f (x ∷ xs) i t (suc k) h =
    subst (λ (m : ℕ). T (f m (get_or xs k 0))) (suc-add i k ∙ sym (add-suc i k))
    (from f xs (suc i) (and_r (f i x) (every f (suc i) xs) t) k (le_of_suc-le-suc h))

pub at : (f : ℕ → ℕ → Bool) (xs : List ℕ) → T (every f 0 xs) → (k : ℕ) → k < length xs → T (f k (get_or xs k 0))
at f xs t k h = subst (λ (m : ℕ). T (f m (get_or xs k 0))) (zero-add k) (from f xs 0 t k h)
