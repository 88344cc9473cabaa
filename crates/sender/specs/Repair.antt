-- Repair symbols (document 01, "Packets"; RFC 8681, sections 3.3 and 4.1.3): each byte of one is the XOR, over the window, of coefficient times
-- source byte, and its key gives the coefficients.
use Rattle.words.specs.Words.{ℕ, List, length, cond, eqb}
use Rattle.rows.specs.Combination.{combination}
use Rattle.wire.specs.declared.Scheme.{Scheme}
use Rattle.wire.specs.declared.Scheme.TheVariants.{Gf2, Gf256}
use Rattle.coefficients.specs.Coefficients.{coefficients_of}

-- the repair symbol of a key over a window of symbols of E bytes: byte i is the XOR, over the window, of the key's coefficient times byte i
unfoldable pub repair_symbol : Scheme → (dt E : ℕ) → List (List ℕ) → ℕ → List ℕ
repair_symbol scheme dt E window key = combination E (coefficients_of scheme key dt (length window)).list window

-- the key that is written: 0 in scheme 9 with DT 15
abbrev pub written_key : Scheme → ℕ → ℕ → ℕ
written_key Gf2 key dt = cond (eqb dt 15) 0 key
written_key Gf256 key dt = key
