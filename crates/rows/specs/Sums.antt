-- Rows of a memory that are added one by one to what is there. `combination` says the same of symbols (`get_or-combined`, `combined_sums`).
use Rattle.std.specs.Prelude.{◌+◌, ◌*◌}
use Rattle.words.specs.Words.{ℕ, List, length, suc, zero}
use Rattle.memory.specs.Part.{part}
use Rattle.rows.specs.Rows.{add_scaled}
use Rattle.rows.specs.Combination.{coefficient}

-- d + the sum of c k * row k over the k below n
unfoldable pub combined : (c : ℕ → ℕ) (row : ℕ → List ℕ) (n : ℕ) → List ℕ → List ℕ
combined c row zero d = d
combined c row (suc n) d = add_scaled (c n) (combined c row n d) (row n)

-- row k of a memory that has rows from a on, one every s bytes: the first n bytes of it
unfoldable pub row_at : List ℕ → (a s n : ℕ) → ℕ → List ℕ
row_at m a s n k = part (a + k * s) n m

-- d + the sum of the rows of a memory, row k times element k of cs. Of each row `size` bytes count.
abbrev pub rows_added : (cs m : List ℕ) (a s size : ℕ) → List ℕ → List ℕ
rows_added cs m a s size d = combined (coefficient cs) (row_at m a s size) (length cs) d
