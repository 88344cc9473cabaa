-- The packets of a block as a plain history (document 02, No. 9), in the words of the receiver's: positions 0 to k - 1 hold the source symbols, and each
-- packet says that its symbol is the combination of them with the coefficients of its ESI. What is proved of them (proofs/Recovery).
use Rattle.std.specs.Prelude.{◌≡◌, ◌↔◌, ◌⊎◌, ◌∷◌, ◌≤◌, ◌<◌}
use Rattle.words.specs.Words.{List, [], map, ℕ, length, get_or}
use Rattle.field.specs.Powers.{power}
use Rattle.memory.specs.Number.{Bytes}
use Rattle.history.specs.Symbol.{bytes_of}
use Rattle.history.specs.History.{Located, repair, Filling, Satisfied, All, Consistent, Known, Counted}
use Rattle.interpolation.specs.Polynomial.{value, Through}
use Rattle.interpolation.specs.Lagrange.{lagranges}

-- A packet of a block: its ESI and its symbol.
pub record Packet : Type 0 where
  pub esi : ℕ
  pub symbol : List ℕ

-- Its symbol has E bytes, and its ESI is one of the 255.
pub record Formed (E : ℕ) (p : Packet) : Type 0 where
  pub small : p.esi < 255
  pub sized : length p.symbol ≡ E
  pub bytes : Bytes p.symbol

-- So have all of a list.
abbrev pub AllFormed : ℕ → List Packet → Type 0
AllFormed E [] = Unit {0}
AllFormed E (p ∷ ps) = Formed E p × AllFormed E ps

-- What it says in a block of k source symbols.
abbrev pub says : (k : ℕ) → Packet → Located
says k p = repair 0 k (lagranges k p.esi ∷ []) (p.symbol ∷ [])

-- What packets say.
abbrev pub all_say : (k : ℕ) → List Packet → List Located
all_say k ps = map (says k) ps

-- Byte b of the source symbols.
abbrev pub byte_at : (E : ℕ) → Filling E → (b : ℕ) → ℕ → ℕ
byte_at E f b i = get_or (bytes_of E (f i)) b 0

-- One of the packets has this ESI and this symbol; and this ESI.
abbrev pub HeardAs : List Packet → (j : ℕ) → List ℕ → Type 0
HeardAs [] j v = ⊥
HeardAs (p ∷ ps) j v = ((p.esi ≡ j) × (p.symbol ≡ v)) ⊎ HeardAs ps j v

abbrev pub Heard : List Packet → (j : ℕ) → Type 0
Heard ps j = (v : List ℕ) × HeardAs ps j v

-- n different ESIs were heard.
abbrev pub HeardCount : List Packet → ℕ → Type 0
HeardCount ps n = Counted (Heard ps) 255 n

-- After packets that some block satisfies together, of which n have different ESIs:
pub record Recovered (E k : ℕ) (ps : List Packet) (n : ℕ) : Type 0 where
  -- with k of them every source symbol is known;
  pub whole : k ≤ n → (i : ℕ) → i < k → Known E (all_say k ps) i
  -- with fewer those that were heard, and no other;
  pub part : n < k → (i : ℕ) → i < k → Known E (all_say k ps) i ↔ Heard ps i
  -- so the block is recovered exactly with k of them.
  pub exactly : ((i : ℕ) → i < k → Known E (all_say k ps) i) ↔ (k ≤ n)
  -- A packet whose ESI was not heard agrees with fewer than k, whatever its symbol is;
  pub fresh : n < k → (p : Packet) → Formed E p → ¬ Heard ps p.esi → Consistent E (says k p ∷ all_say k ps)
  -- one whose ESI was heard agrees exactly with the same symbol;
  pub again : (p : Packet) → Formed E p → (v : List ℕ) → HeardAs ps p.esi v → Consistent E (says k p ∷ all_say k ps) ↔ (p.symbol ≡ v)
  -- and with k or more exactly the packets of their block agree.
  pub settled : k ≤ n → (f : Filling E) → All E (all_say k ps) f → (p : Packet) → Formed E p
      → Consistent E (says k p ∷ all_say k ps) ↔ Satisfied E (says k p) f

-- Blocks of k source symbols of E bytes.
pub record Recovery (E k : ℕ) : Type 0 where
  -- A packet says that each byte of its symbol is the value at 2^ESI of the polynomial that has that byte of source symbol i at 2^i for every i below k
  -- (there is one of degree under k, and no other: `Standard` of crate `interpolation`).
  pub polynomial : (p : Packet) → Formed E p → (f : Filling E)
      → Satisfied E (says k p) f ↔ ((b : ℕ) → b < E → (q : List ℕ) → Through k (byte_at E f b) q → value q (power p.esi) ≡ get_or p.symbol b 0)
  -- The packet of a source symbol says what its position holds.
  pub sources : (p : Packet) → Formed E p → p.esi < k → (f : Filling E) → Satisfied E (says k p) f ↔ (bytes_of E (f p.esi) ≡ p.symbol)
  -- How many different ESIs were heard can be told.
  pub counts : (ps : List Packet) → (n : ℕ) × HeardCount ps n
  -- What follows from what was heard.
  pub recovered : (ps : List Packet) → AllFormed E ps → (n : ℕ) → HeardCount ps n → Consistent E (all_say k ps) → Recovered E k ps n
