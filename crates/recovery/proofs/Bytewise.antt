-- What a packet of a block says, byte by byte: in each byte its symbol is that of the code.
use Rattle.std.specs.Prelude.{◌≡◌, ◌↔◌, ◌∷◌, ◌<◌}
use Rattle.words.specs.Words.{refl, sym, ap, ◌∙◌, List, [], ℕ, zero-add, arith, dec_lt, get_or, ext_get_or}
use lib.ListN.{get_or-eq_default}
use Rattle.rows.specs.Combination.{dot, coefficient, tabulate, combination}
use Rattle.rows.proofs.Dot.{dot_same}
use Rattle.rows.proofs.Combinations.{length-combination, get_or-combination, length-tabulate, get_d_tabulate}
use Rattle.history.specs.Symbol.{Symbol, bytes_of, symbol_of}
use Rattle.history.specs.History.{Filling, symbols_at, Satisfied}
use Rattle.history.proofs.Says.{Whole, bytes_symbol, symbol_bytes, bytes_whole, length_at, get_d_at, head}
use Rattle.interpolation.specs.Lagrange.{lagrange, lagranges, encoded}
use Rattle.interpolation.specs.Code.{Block}
use Rattle.recovery.specs.Block.{Packet, Formed, says, byte_at}

-- the symbols of a block do not depend on what follows it
pub encoded_same : (k : ℕ) (s t : ℕ → ℕ) (j : ℕ) → ((i : ℕ) → i < k → s i ≡ t i) → encoded k s j ≡ encoded k t j
unfolding encoded
encoded_same k s t j e = dot_same _ s _ t k (λ i h. refl) e

module _ (E : ℕ) where
  -- two symbols with the same bytes are the same
  pub same_symbol : (u v : Symbol E) → ((b : ℕ) → b < E → get_or (bytes_of E u) b 0 ≡ get_or (bytes_of E v) b 0) → u ≡ v
  same_symbol u v e =
      sym (symbol_bytes E u)
      ∙ ap (symbol_of E) (ext_get_or 0 (bytes_of E u) (bytes_of E v) ((bytes_whole E u).sized ∙ sym (bytes_whole E v).sized) (λ b h. e b (omega (arith, (bytes_whole E u).sized))))
      ∙ symbol_bytes E v

module _ (E k : ℕ) where
  pub combination-byte : (f : Filling E) (j b : ℕ) → b < E
      → get_or (combination E (lagranges k j) (symbols_at E f 0 k)) b 0 ≡ encoded k (byte_at E f b) j
  unfolding encoded lagranges
  combination-byte f j b h =
      let xs = symbols_at E f 0 k in
      get_or-combination E (lagranges k j) xs b h ∙ ap (dot (coefficient (lagranges k j)) (λ i. get_or (get_or xs i []) b 0)) (length_at E f 0 k)
      ∙ dot_same _ _ _ _ k (λ i g. get_d_tabulate (λ i. lagrange k i j) k i g)
      (λ i g. ap (λ (v : List ℕ). get_or v b 0) (get_d_at E f 0 k i g ∙ ap (λ q. bytes_of E (f q)) (zero-add i)))

  -- a packet is satisfied where in each byte its symbol is that of the code
  pub satisfied : (p : Packet) → Formed E p → (f : Filling E)
      → Satisfied E (says k p) f ↔ ((b : ℕ) → b < E → encoded k (byte_at E f b) p.esi ≡ get_or p.symbol b 0)
  satisfied p w f = (
    (λ s b h. sym (combination-byte f p.esi b h) ∙ ap (λ (v : List ℕ). get_or v b 0) (ap head s)),
    (λ e. ap (λ (v : List ℕ). v ∷ [])
        (ext_get_or 0 _ p.symbol (length-combination E _ _ ∙ sym w.sized)
        (λ b h. let g : b < E = omega (arith, length-combination E (lagranges k p.esi) (symbols_at E f 0 k)) in
        combination-byte f p.esi b g ∙ e b g))),
  )

  -- the filling that has these bytes
  pub filled : (ℕ → ℕ → ℕ) → Filling E
  filled t i = symbol_of E (tabulate (λ b. t b i) E)

  pub filled_at : (t : ℕ → ℕ → ℕ) → ((b : ℕ) → Block k (t b)) → (b : ℕ) → b < E → (i : ℕ) → i < k → byte_at E (filled t) b i ≡ t b i
  unfolding filled
  filled_at t small b h i g =
      ap (λ (v : List ℕ). get_or v b 0) (bytes_symbol E (tabulate (λ b. t b i) E) whole) ∙ get_d_tabulate (λ b. t b i) E b h
    where
      byte : (c : ℕ) → Dec (c < E) → get_or (tabulate (λ b. t b i) E) c 0 < 256
      byte c (yes l) = rw (get_d_tabulate (λ b. t b i) E c l) (small c i g)
      byte c (no l) = rw (get_or-eq_default (tabulate (λ b. t b i) E) 0 {n = c} (omega (arith, length-tabulate (λ b. t b i) E))) (omega arith)

      whole : Whole E (tabulate (λ b. t b i) E)
      whole = record { sized = length-tabulate (λ b. t b i) E; small = λ c. byte c (dec_lt c E) }

  pub filled_encoded : (t : ℕ → ℕ → ℕ) → ((b : ℕ) → Block k (t b)) → (b : ℕ) → b < E → (j : ℕ) → encoded k (byte_at E (filled t) b) j ≡ encoded k (t b) j
  filled_encoded t small b h j = encoded_same k _ _ j (filled_at t small b h)
