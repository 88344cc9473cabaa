-- What is proved of the code (proofs/Standard): it is that of RFC 5510, and any k of its symbols tell the block, while fewer tell nothing of another.
use Rattle.std.specs.Prelude.{◌≡◌, ◌≢◌, ◌≤◌, ◌<◌}
use Rattle.words.specs.Words.{List, ℕ, length, get_or}
use Rattle.field.specs.Powers.{power}
use Rattle.interpolation.specs.Polynomial.{value, Through}
use Rattle.interpolation.specs.Lagrange.{lagrange, encoded}

-- The first k of s are bytes: byte b of each source symbol of a block, for some b.
abbrev pub Block : (k : ℕ) → (ℕ → ℕ) → Type 0
Block k s = (i : ℕ) → i < k → s i < 256

-- The ESIs of a list are below 255, and no two of them are the same.
pub record Esis (js : List ℕ) : Type 0 where
  pub small : (l : ℕ) → l < length js → get_or js l 0 < 255
  pub different : (l m : ℕ) → l < length js → m < length js → get_or js l 0 ≡ get_or js m 0 → l ≡ m

-- Symbol j is the value at 2^j of the polynomial of degree under k that has source symbol i at 2^i: there is one, and no other.
pub record Standard (k : ℕ) (s : ℕ → ℕ) : Type 0 where
  pub polynomial : List ℕ
  pub through : Through k s polynomial
  pub only : (q : List ℕ) → Through k s q → q ≡ polynomial
  pub symbols : (j : ℕ) → encoded k s j ≡ value polynomial (power j)

-- Two blocks have the same symbols at the ESIs of a list.
abbrev pub Agree : (k : ℕ) (js : List ℕ) (s t : ℕ → ℕ) → Type 0
Agree k js s t = (l : ℕ) → l < length js → encoded k s (get_or js l 0) ≡ encoded k t (get_or js l 0)

-- For blocks of at most 255 source symbols.
pub record Code : Type 0 where
  -- The code is the standard's.
  pub standard : (k : ℕ) → k ≤ 255 → (s : ℕ → ℕ) → Block k s → Standard k s
  -- The coefficients of a source symbol are 1 for itself and 0 for the others, so the first k symbols are the source symbols.
  pub own : (k : ℕ) → k ≤ 255 → (i : ℕ) → i < k → lagrange k i i ≡ 1
  pub other : (k i j : ℕ) → j < k → j ≢ i → lagrange k i j ≡ 0
  pub systematic : (k : ℕ) → k ≤ 255 → (s : ℕ → ℕ) → Block k s → (i : ℕ) → i < k → encoded k s i ≡ s i
  -- k symbols or more tell the block.
  pub tells : (k : ℕ) → k ≤ 255 → (js : List ℕ) → Esis js → k ≤ length js → (s t : ℕ → ℕ) → Block k s → Block k t
      → Agree k js s t → (i : ℕ) → i < k → s i ≡ t i
  -- k symbols or fewer may be any bytes: some block has them.
  pub meets : (k : ℕ) → k ≤ 255 → (js : List ℕ) → Esis js → length js ≤ k → (v : ℕ → ℕ) → Block (length js) v
      → (s : ℕ → ℕ) × Block k s × ((l : ℕ) → l < length js → encoded k s (get_or js l 0) ≡ v l)
  -- Fewer than k symbols tell nothing of another source symbol: with every block there is one that has the same symbols there and another at i.
  pub hides : (k : ℕ) → k ≤ 255 → (js : List ℕ) → Esis js → length js < k → (i : ℕ) → i < k
      → ((l : ℕ) → l < length js → get_or js l 0 ≢ i) → (s : ℕ → ℕ) → Block k s → (t : ℕ → ℕ) × Block k t × Agree k js s t × (s i ≢ t i)
