-- Contracts of inner functions: a reader need not believe these.
-- The symbols of the window where they stand in the memory, and the ADUI that the symbols from a position on make up.
use Rattle.std.specs.Prelude.{◌≡◌, ◌≤◌, ◌+◌, ◌%◌, ◌++◌}
use Rattle.words.specs.Words.{ℕ, List, [], Some, suc, true, zero, None, false, Bool}
use Rattle.memory.specs.Part.{part}
use Rattle.wire.specs.Packets.{symbol_count}
use Rattle.decoder.specs.Bytes.{Coded}
use Rattle.decoder.specs.Model.{State}
use Rattle.table.specs.Window.{row_offset, Window}
use Rattle.starts.specs.Adu.{joint}
use Rattle.starts.specs.Starts.{seen}

-- Where the symbol of the i-th position stands, and its bytes.
abbrev pub symbol_offset : (w E oldest i : ℕ) → ℕ
symbol_offset w E oldest i = row_offset w E ((oldest + i) % w) + w

abbrev pub symbol_in : (w E oldest : ℕ) → List ℕ → ℕ → List ℕ
symbol_in w E oldest m i = part (symbol_offset w E oldest i) E m

-- The bytes of n symbols from the i-th on, one after the other.
unfoldable pub text : (w E oldest : ℕ) → List ℕ → (i n : ℕ) → List ℕ
text w E oldest m i zero = []
text w E oldest m i (suc n) = symbol_in w E oldest m i ++ text w E oldest m (suc i) n

-- The symbol of the i-th position begins at `at`, and ends within the rows.
pub record SymbolOf (w E oldest i at : ℕ) : Type 0 where
  pub start : at ≡ symbol_offset w E oldest i
  pub end : at + E ≤ row_offset w E w
  pub small : at ≤ 450255

-- Whether all n symbols from the d-th on are known, and then what they make up.
abbrev pub AllKnown : (w E oldest d n : ℕ) → Bool → List ℕ → Type 0
AllKnown w E oldest d n true m =
    (d + n ≤ w) × ((b : ℕ) (S : State (Coded E) w) → b % w ≡ oldest → Window w E m b S → joint (seen E w S) d n ≡ Some (text w E oldest m d n))
AllKnown w E oldest d n false m = (b : ℕ) (S : State (Coded E) w) → b % w ≡ oldest → Window w E m b S → joint (seen E w S) d n ≡ None

-- Sizes of an ADUI of L bytes of ADU in the n symbols from the d-th on.
pub record Spans (w E d n L : ℕ) : Type 0 where
  pub within : d + n ≤ w
  pub count : n ≡ symbol_count E L
  pub short : L ≤ 65535
