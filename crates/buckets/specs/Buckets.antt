-- Contracts of inner functions: a reader need not believe these. Rows in buckets by the halves of their coefficients.
use Rattle.std.specs.Prelude.{◌≡◌, ◌*◌, ◌++◌, ◌+◌, ◌<◌}
use Rattle.words.specs.Words.{List, [], get_or, length, ℕ}
use Rattle.rows.specs.Combination.{dot, coefficient, tabulate}

-- what the buckets count: those of the low halves, then those of the high halves
unfoldable pub weights : List ℕ
weights = tabulate (λ v. v) 16 ++ tabulate (λ v. v * 16) 16

-- n buckets of 64 bytes
pub record Strips (n : ℕ) (b : List (List ℕ)) : Type 0 where
  pub count : length b ≡ n
  pub size : (v : ℕ) → v < n → length (get_or b v []) ≡ 64

-- at each byte, the buckets, times their weights, sum up to the first n rows, times their coefficients
abbrev pub Filled : (cs : List ℕ) (n : ℕ) (m : List ℕ) (a s : ℕ) (b : List (List ℕ)) → Type 0
Filled cs n m a s b = (i : ℕ) → i < 64
    → dot (coefficient weights) (λ v. get_or (get_or b v []) i 0) 32 ≡ dot (coefficient cs) (λ k. get_or m (a + k * s + i) 0) n
