-- Contracts of inner functions: a reader need not believe these.
use Rattle.words.specs.Words.{ℕ, List, drop}
use Rattle.wire.specs.Packets.{chunks}
use Rattle.rows.specs.Combination.{combination}
use Rattle.interpolation.specs.Lagrange.{lagranges}

-- The symbol with an ESI of the k source symbols of E bytes that stand one after the other in the memory.
unfoldable pub symbol_from : (k E : ℕ) → List ℕ → (esi : ℕ) → List ℕ
symbol_from k E m esi = combination E (lagranges k esi) (chunks k E (drop 96 m))
