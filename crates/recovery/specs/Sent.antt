-- The packets of one block f, as an encoder makes them, and what they tell (proofs/Sending).
use Rattle.std.specs.Prelude.{◌≡◌, ◌↔◌, ◌∷◌, ◌≤◌, ◌<◌}
use Rattle.words.specs.Words.{List, [], map, ℕ}
use Rattle.rows.specs.Combination.{combination}
use Rattle.history.specs.Symbol.{bytes_of}
use Rattle.history.specs.History.{Filling, symbols_at, Satisfied, All, Consistent, Known}
use Rattle.interpolation.specs.Lagrange.{lagranges}
use Rattle.recovery.specs.Block.{Packet, Formed, AllFormed, says, all_say, HeardCount}

-- The packet with the ESI j of the block f.
abbrev pub made : (E k : ℕ) → Filling E → (j : ℕ) → Packet
made E k f j = record { esi = j; symbol = combination E (lagranges k j) (symbols_at E f 0 k) }

-- All these ESIs are below 255.
abbrev pub Small : List ℕ → Type 0
Small [] = Unit {0}
Small (j ∷ js) = (j < 255) × Small js

-- The packets with these ESIs.
abbrev pub all_made : (E k : ℕ) → Filling E → List ℕ → List Packet
all_made E k f js = map (made E k f) js

-- The packets of the block f of k source symbols of E bytes.
pub record Sending (E k : ℕ) (f : Filling E) : Type 0 where
  -- They have the form of packets; that of a source symbol carries it.
  pub one_formed : (j : ℕ) → j < 255 → Formed E (made E k f j)
  pub formed : (js : List ℕ) → Small js → AllFormed E (all_made E k f js)
  pub sources : (i : ℕ) → i < k → (made E k f i).symbol ≡ bytes_of E (f i)
  -- The block satisfies them, and no other packet with the same ESI.
  pub own : (p : Packet) → Satisfied E (says k p) f ↔ (p ≡ made E k f p.esi)
  -- It satisfies all together, so that they agree with each other, in any order and any number of times.
  pub satisfied : (js : List ℕ) → All E (all_say k (all_made E k f js)) f
  pub consistent : (js : List ℕ) → Consistent E (all_say k (all_made E k f js))
  -- What they tell is what was sent.
  pub right : (js : List ℕ) (i : ℕ) → Known E (all_say k (all_made E k f js)) i → (g : Filling E) → All E (all_say k (all_made E k f js)) g → g i ≡ f i
  -- With k different ESIs they tell everything.
  pub whole : (js : List ℕ) → Small js → (n : ℕ) → HeardCount (all_made E k f js) n → k ≤ n → (i : ℕ) → i < k → Known E (all_say k (all_made E k f js)) i
