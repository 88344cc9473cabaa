-- The symbol with an ESI, of the source symbols that stand in a memory; and the packets.
-- One symbol: rows-combination, symbol_made, symbol_length, symbols_are, symbol_is. Lent memory: lent.
-- Packets: source-length, repair-length, source-written, repair-written. The call that makes repair: made.
use Rattle.std.specs.Prelude.{◌≡◌, ◌≤◌, ◌+◌, ◌<◌, ◌-◌, ◌*◌, Ok}
use Rattle.words.specs.Words.{arith, ℕ, List, length, refl, ◌∙◌, sym, ap, ap₂, [], get_or, drop, take, replicate, ext_get_or}
use Rattle.words.specs.Words.{length-append, Some, true, leb, leb-true}
use Rattle.memory.specs.Part.{part, splice}
use Rattle.memory.proofs.Parts.{part-drop, cut, length_part, whole}
use Rattle.wire.specs.Packets.{chunks}
use Rattle.wire.proofs.Adui.{length-chunks, get_or-chunks, front_next}
use Rattle.rows.specs.Combination.{coefficient, combination}
use Rattle.rows.specs.Sums.{row_at, rows_added}
use Rattle.rows.proofs.Dot.{dot_same}
use Rattle.rows.proofs.Combinations.{long-rows, length-combination, combined_sums}
use Rattle.interpolation.specs.Lagrange.{lagranges}
use Rattle.blocks.specs.declared.Block.{Block}
use Rattle.blocks.specs.declared.identifier.Identifier.{Identifier}
use Rattle.blocks.specs.Identifiers.{identifier_bytes, identifier_of, source_packet, repair_packet}
use Rattle.blocks.specs.Stored.{block_in, taken_in}
use Rattle.block_encoder.specs.State.{Encoder, symbol_of, Holds}
use Rattle.block_encoder.specs.Calls.{done, repairing}
use Rattle.block_encoder.specs.Promises.{Makes}
use Rattle.block_encoder.specs.Inner.{symbol_from}
use Rattle.block_encoder.proofs.Promising.{promise_done, repairing_done}

-- ---- One symbol

pub rows-combination : (cs m : List ℕ) (E : ℕ) → 96 + length cs * E ≤ length m
    → rows_added cs m 96 E E (replicate E 0) ≡ combination E cs (chunks (length cs) E (drop 96 m))
unfolding row_at
rows-combination cs m E room =
    let k = length cs in
    let row = row_at m 96 E E in
    let xs = chunks k E (drop 96 m) in
    let n : length xs ≡ k = length-chunks k E (drop 96 m) in
    combined_sums E row (coefficient cs) k (long-rows m 96 E E k (omega arith) room) cs xs
    (λ i h.
    rw n
    (dot_same (coefficient cs) (λ j. get_or (row j) i 0) (coefficient cs) (λ j. get_or (get_or xs j []) i 0) k (λ j g. refl)
    (λ j g. ap (λ (x : List ℕ). get_or x i 0) (part-drop 96 (j * E) E m ∙ sym (get_or-chunks k E (drop 96 m) j g)))))

-- With the coefficients that were filled in.
pub symbol_made : (k E j : ℕ) (m cs out : List ℕ) → 96 + length cs * E ≤ length m → out ≡ rows_added cs m 96 E E (replicate E 0) → cs ≡ lagranges k j
    → length cs ≡ k → out ≡ symbol_from k E m j
unfolding symbol_from
symbol_made k E j m cs out room e p n =
    e ∙ rows-combination cs m E room ∙ ap₂ (λ (l : List ℕ) (i : ℕ). combination E l (chunks i E (drop 96 m))) p n

pub symbol_length : (k E : ℕ) (m : List ℕ) (j : ℕ) → length (symbol_from k E m j) ≡ E
unfolding symbol_from
symbol_length k E m j = length-combination E (lagranges k j) (chunks k E (drop 96 m))

-- Of an encoder that took its k ADUs.
module _ (m : List ℕ) (e : Encoder) (h : Holds m e) (full : e.block.k ≤ length e.symbols) where
  symbols_are : chunks e.block.k e.block.size (drop 96 m) ≡ e.symbols
  symbols_are =
      let k = e.block.k in
      let E = e.block.size in
      let n = length-chunks k E (drop 96 m) in
      ext_get_or [] (chunks k E (drop 96 m)) e.symbols (omega (arith, n, h.few))
      (λ i g. get_or-chunks k E (drop 96 m) i (omega arith) ∙ sym (part-drop 96 (i * E) E m) ∙ h.stored i (omega arith))

  pub symbol_is : (j : ℕ) → symbol_from e.block.k e.block.size m j ≡ symbol_of e j
  unfolding symbol_from symbol_of
  symbol_is j = ap (combination e.block.size (lagranges e.block.k j)) symbols_are

-- ---- How many bytes the code lends of m[at..at + n]

pub lent : (at n : ℕ) (m : List ℕ) → at + n ≤ length m → length (take (at + n - at) (drop at m)) ≡ n
lent at n m h = ap length (cut at n m) ∙ length_part at n m h

-- ---- Packets

module _ (b : Block) (esi : ℕ) where
  pub source-length : (adu : List ℕ) → length (source_packet b esi adu) ≡ length adu + 6
  unfolding source_packet
  source-length adu = length-append adu (identifier_bytes (identifier_of b esi))

  pub repair-length : (symbol : List ℕ) → length (repair_packet b esi symbol) ≡ 6 + length symbol
  unfolding repair_packet
  repair-length symbol = length-append (identifier_bytes (identifier_of b esi)) symbol

  -- Written in two steps, with an identifier that is the symbol's.
  module _ (id : Identifier) (is : (id.block ≡ b.number) × (id.esi ≡ esi) × (id.k ≡ b.k)) where
    identified : identifier_bytes id ≡ identifier_bytes (identifier_of b esi)
    identified = rw (is.0, is.1, is.2)

    pub source-written : (adu out out₁ out₂ : List ℕ) → out₁ ≡ splice 0 (part 0 (length adu) adu) out → out₂ ≡ splice (length adu) (identifier_bytes id) out₁
        → out₂ ≡ splice 0 (source_packet b esi adu) out
    unfolding source_packet
    source-written adu out out₁ out₂ e f =
        rw (f, e, whole (length adu) adu refl, identified) (front_next (length adu) adu (identifier_bytes (identifier_of b esi)) out refl)

    pub repair-written : (symbol out out₁ out₂ : List ℕ) → out₁ ≡ splice 0 (identifier_bytes id) out → out₂ ≡ splice 6 symbol out₁
        → out₂ ≡ splice 0 (repair_packet b esi symbol) out
    unfolding repair_packet
    repair-written symbol out out₁ out₂ e f = rw (f, e, identified) (front_next 6 (identifier_bytes (identifier_of b esi)) symbol out refl)

-- ---- The call that makes repair

-- The repair packet was written.
pub made : (b : Block) (esi : ℕ) (m out out' : List ℕ) → block_in 3 m ≡ Some b → leb (b.size + 6) (length out) ≡ true → b.k ≤ esi → esi < b.total
    → (t : ℕ) → t ≡ taken_in m → b.k ≤ t → out' ≡ splice 0 (repair_packet b esi (symbol_from b.k b.size m esi)) out
    → Makes esi m out (Ok (b.size + 6)) out'
made b esi m out out' h f l g t c n o =
    let y = symbol_from b.k b.size m esi in
    promise_done (λ e. repairing e esi (length out)) m out b h (repair_packet b esi y) (b.size + 6) m out'
    (omega (arith, repair-length b esi y, symbol_length b.k b.size m esi)) (leb-true (b.size + 6) (length out) f) o (record { same = refl; past = refl })
    (λ e k q.
    let is : t ≡ length e.symbols = c ∙ k.count in
    let full : e.block.k ≤ length e.symbols = rw (q, is) at n in
    let s : symbol_of e esi ≡ y = rw q (sym (symbol_is m e k full esi)) in (
      e,
      repairing_done esi (length out) e b q f l g t is n ∙ ap (λ (x : List ℕ). done (repair_packet b esi x) e) s,
      k,
      q,
    ))
