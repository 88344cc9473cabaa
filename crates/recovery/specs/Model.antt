-- The block that computes: the packets' equations over its k positions, in reduced row echelon form (crate `decoder`), in place of the packets.
-- That its answers are the history's is proved (proofs/Tracking): a reader of the claims need not believe it.
use Rattle.std.specs.Prelude.{◌≡◌, ◌↔◌, ◌⊎◌, ◌∷◌, ◌≤◌, ◌<◌}
use Rattle.words.specs.Words.{None, Some, List, [], ℕ, get_or}
use Rattle.decoder.specs.Bytes.{byte, Coded}
use Rattle.decoder.specs.Model.{Row, State, Sat, Rref, insert, known}
use Rattle.decoder.specs.Receiver.{empty, Accepted}
use Rattle.decoder.specs.Packets.{row}
use Rattle.history.specs.Symbol.{Symbol, symbol_of}
use Rattle.history.specs.History.{Filling, All, Consistent}
use Rattle.interpolation.specs.Lagrange.{lagranges}
use Rattle.recovery.specs.Block.{Packet, Formed, AllFormed, says, all_say, Heard, HeardCount}

-- A packet's equation: the coefficients of its ESI, and its symbol.
abbrev pub equation_of : (E k : ℕ) → Packet → Row (Coded E) k
equation_of E k p = row (Coded E) k (λ i. byte (get_or (lagranges k p.esi) i 0)) (symbol_of E p.symbol)

-- A system says what the packets say: it is reduced, and its fillings are theirs.
pub record Tracks (E k : ℕ) (ps : List Packet) (S : State (Coded E) k) : Type 0 where
  pub formed : AllFormed E ps
  pub reduced : Rref S
  pub same : (f : Filling E) → Sat S f ↔ All E (all_say k ps) f

-- A block's system, from no packets on.
pub record Tracking (E k : ℕ) : Type 0 where
  pub begins : Tracks E k [] (empty (Coded E) k)
  -- A packet contradicts exactly where no block satisfies it and all before; else the system goes on with it.
  pub contradicts : (ps : List Packet) (S : State (Coded E) k) → Tracks E k ps S → (p : Packet) → Formed E p
      → (insert S (equation_of E k p) ≡ None) ↔ ¬ Consistent E (says k p ∷ all_say k ps)
  pub goes_on : (ps : List Packet) (S T : State (Coded E) k) → Tracks E k ps S → (p : Packet) → Formed E p
      → insert S (equation_of E k p) ≡ Some T → Tracks E k (p ∷ ps) T
  -- Some block satisfies the packets, and what the system shows is what every such block has there.
  pub agrees : (ps : List Packet) (S : State (Coded E) k) → Tracks E k ps S → Consistent E (all_say k ps)
  pub right : (ps : List Packet) (S : State (Coded E) k) → Tracks E k ps S → (i : ℕ) (v : Symbol E) → known S i ≡ Some v
      → (f : Filling E) → All E (all_say k ps) f → f i ≡ v
  -- It shows all source symbols once k symbols with different ESIs were heard, and before that those that were heard.
  pub shows : (ps : List Packet) (S : State (Coded E) k) → Tracks E k ps S → (n : ℕ) → HeardCount ps n → (i : ℕ) → i < k
      → Accepted (known S i) ↔ ((k ≤ n) ⊎ Heard ps i)
