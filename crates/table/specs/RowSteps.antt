-- Contracts of inner functions: a reader need not believe these.
-- Where rows and symbols begin, and what a row's first flag says.
use Rattle.std.specs.Prelude.{◌≡◌, ◌≤◌, ◌+◌, ◌<◌, ◌%◌, ◌∷◌, ◌↔◌}
use Rattle.words.specs.Words.{ℕ, List, Bool, [], suc, zero, true, get_or}
use Rattle.memory.specs.Part.{splice}
use Rattle.table.specs.Window.{stride, row_offset, row, flag, Alone}

-- The row of the i-th position from that of the row `oldest` on is `r`.
pub record RowOf (w oldest i r : ℕ) : Type 0 where
  pub is : r ≡ (oldest + i) % w
  pub small : r < w

-- The row `r` of `w + 1` begins at `at`. No offset is larger than the last.
pub record RowAt (w E r at : ℕ) : Type 0 where
  pub start : at ≡ row_offset w E r
  pub end : at + stride w E ≤ row_offset w E (w + 1)
  pub wide : w + E + 4 ≤ stride w E
  pub small : at ≤ 450000

-- The symbol of the row `r` of `w + 1` begins at `at`.
pub record SymbolAt (w E r at : ℕ) : Type 0 where
  pub start : at ≡ row_offset w E r + w
  pub end : at + E ≤ row_offset w E (w + 1)
  pub small : at ≤ 450255

-- Every byte from `a` on and before `z` is zero.
abbrev pub ZeroFrom : (a z : ℕ) → List ℕ → Type 0
ZeroFrom a z l = (i : ℕ) → a ≤ i → i < z → get_or l i 0 ≡ 0

-- One for the flag of a known position, else zero.
abbrev pub one_if_known : ℕ → ℕ
one_if_known zero = 0
one_if_known (suc zero) = 0
one_if_known (suc (suc zero)) = 1
one_if_known (suc (suc (suc n))) = 0

abbrev pub known-flag : (w E : ℕ) → List ℕ → ℕ → ℕ
known-flag w E m r = one_if_known (flag w E (row w E r m))

-- The memory with `v` for the first flag of the row `r`.
abbrev pub flagged : (w E r v : ℕ) → List ℕ → List ℕ
flagged w E r v m = splice (row_offset w E r + (w + E)) (v ∷ []) m

-- Whether the row `r` has no coefficient but its own.
abbrev pub Tested : (w E r : ℕ) → Bool → List ℕ → Type 0
Tested w E r alone m = (alone ≡ true) ↔ Alone w r (row w E r m)
