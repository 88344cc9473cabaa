-- A part of a memory, and a memory with a part replaced.
use Rattle.std.specs.Borrow.{Bor}
use Rattle.std.specs.Prelude.{◌≡◌, ◌≤◌, ◌+◌, ◌++◌, ◌⊎◌}
use Rattle.words.specs.Words.{ℕ, List, length, drop, take}

-- the n bytes of m from a on
unfoldable pub part : ℕ → ℕ → List ℕ → List ℕ
part a n m = take n (drop a m)

-- m with x in place of the bytes from a on
unfoldable pub splice : ℕ → List ℕ → List ℕ → List ℕ
splice a x m = take a m ++ (x ++ drop (length x) (drop a m))

-- the n bytes from a on and the n bytes from b on have none in common
abbrev pub Apart : (a b n : ℕ) → Type 0
Apart a b n = (a + n ≤ b) ⊎ (b + n ≤ a)

-- the slice r is the n bytes from a on of the slice m, and lies where they lie
pub record LiesAt (r m : Bor (List ℕ)) (a n : ℕ) : Type 0 where
  pub bytes : r.now ≡ part a n m.now
  pub block : r.ref_ptr.0 ≡ m.ref_ptr.0
  pub offset : r.ref_ptr.1 ≡ m.ref_ptr.1 + a
