-- Contracts of inner functions: a reader need not believe these. Rows that a list names are added one after the other.
use Rattle.std.specs.Prelude.{◌≡◌, ◌%◌, ◌*◌, ◌+◌, ◌-◌, ◌/◌, ◌<◌, ◌≤◌}
use Rattle.words.specs.Words.{List, [], get_or, length, replicate, suc, zero, ℕ}
use Rattle.rows.specs.Rows.{add_scaled, scaled}
use Rattle.rows.specs.Sums.{combined}
use Rattle.lists.specs.Digits.{shifted, pair_is}

-- d + the rows that the first n elements of l name
unfoldable pub added : (row : ℕ → List ℕ) → List ℕ → ℕ → List ℕ → List ℕ
added row l zero d = d
added row l (suc n) d = add_scaled 1 (added row l n d) (row (get_or l n 0))

-- the first n elements of l name those of the first k rows that have the coefficient 1
pub record Listed (c : ℕ → ℕ) (k n : ℕ) (l : List ℕ) : Type 0 where
  pub few : n ≤ k
  pub below : (j : ℕ) → j < n → get_or l j 0 < k
  pub sums : (row : ℕ → List ℕ) (d : List ℕ) → added row l n d ≡ combined c row k d

-- list t
abbrev pub list_of : List (List ℕ) → ℕ → List ℕ
list_of lists t = get_or lists t []

-- the n lowest pairs have all digits of the coefficients, and list t names the rows in whose coefficients pair t / 3 is t % 3 + 1: the lower digit
-- alone, the higher alone, both
pub record ListedPairs (cs : List ℕ) (lists : List (List ℕ)) (counts : List ℕ) (n : ℕ) : Type 0 where
  pub most : n ≤ 4
  pub above : (k : ℕ) → shifted cs (2 * n) k ≡ 0
  pub listed : (t : ℕ) → t < 3 * n → Listed (pair_is cs (t / 3 * 2) (t % 3 + 1)) (length cs) (get_or counts t 0) (list_of lists t)
  pub others : (t : ℕ) → 3 * n ≤ t → get_or counts t 0 ≡ 0

-- what twelve lists name are some of the first `size` rows
pub record IsNaming (lists : List (List ℕ)) (counts : List ℕ) (size : ℕ) : Type 0 where
  pub few : (t : ℕ) → t < 12 → get_or counts t 0 ≤ 64
  pub below : (t j : ℕ) → t < 12 → j < get_or counts t 0 → get_or (list_of lists t) j 0 < size

-- d + the rows of list t
abbrev pub list_added : (row : ℕ → List ℕ) (lists : List (List ℕ)) (counts : List ℕ) (t : ℕ) → List ℕ → List ℕ
list_added row lists counts t d = added row (list_of lists t) (get_or counts t 0) d

-- 2 d + both + the rows of list t
abbrev pub digit_added : (row : ℕ → List ℕ) (lists : List (List ℕ)) (counts : List ℕ) (t : ℕ) (both : List ℕ) → List ℕ → List ℕ
digit_added row lists counts t both d = list_added row lists counts t (add_scaled 1 (scaled 2 d) both)

-- 4 d + the rows that pair p chooses, of which those with both digits are added to either
unfoldable pub pair_added : (row : ℕ → List ℕ) (lists : List (List ℕ)) (counts : List ℕ) (p : ℕ) → List ℕ → List ℕ
pair_added row lists counts p d =
    let both = list_added row lists counts (3 * p + 2) (replicate 64 0) in
    digit_added row lists counts (3 * p) both (digit_added row lists counts (3 * p + 1) both d)

-- the j highest of n pairs
unfoldable pub pairs_added : (row : ℕ → List ℕ) (lists : List (List ℕ)) (counts : List ℕ) (n j : ℕ) → List ℕ → List ℕ
pairs_added row lists counts n zero d = d
pairs_added row lists counts n (suc j) d = pair_added row lists counts (n - 1 - j) (pairs_added row lists counts n j d)
