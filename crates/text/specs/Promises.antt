-- What is proved of the texts of numbers and bytes (proofs/Promises): a number's text is digits that write it, at least one, with no leading 0. So how
-- many digits its definition allows need not be believed.
use Rattle.std.specs.Prelude.{◌≡◌, ◌≤◌, ◌+◌, ◌<◌, ◌-◌, ◌∷◌, ◌*◌, ◌≢◌}
use Rattle.words.specs.Words.{ℕ, List, length, [], get_or}
use Rattle.text.specs.Text.{decimal, hexadecimal}

-- the number that decimal digits write, after digits that write v
unfoldable pub writes : ℕ → List ℕ → ℕ
writes v [] = v
writes v (b ∷ l) = writes (v * 10 + (b - 48)) l

pub record Texts : Type 0 where
  -- a number's text writes it, has a digit and digits alone, and begins with 0 only where that is all of it
  pub value : (n : ℕ) → writes 0 (decimal n) ≡ n
  pub some : (n : ℕ) → 0 < length (decimal n)
  pub digits : (n i : ℕ) → i < length (decimal n) → (48 ≤ get_or (decimal n) i 0) × (get_or (decimal n) i 0 ≤ 57)
  pub shortest : (n : ℕ) → 1 < length (decimal n) → get_or (decimal n) 0 0 ≢ 48
  -- bytes have two digits each
  pub pairs : (l : List ℕ) → length (hexadecimal l) ≡ 2 * length l
