-- The symbols of an ADU give its flow and the ADU; its first symbol gives its length.
use Rattle.std.specs.Prelude.{◌≡◌, ◌≤◌}
use Rattle.words.specs.Words.{arith, ℕ, List, length, ◌∙◌, sym, ap, [], get_or}
use Rattle.memory.specs.Part.{part}
use Rattle.memory.proofs.Number.{number-bytes}
use Rattle.wire.specs.Packets.{joined, symbol_count, adui, source_symbols}
use Rattle.wire.proofs.Adui.{length-adui, symbol_first, symbol_at_lem}
use Rattle.starts.specs.Adu.{length_in}
use Rattle.starts.proofs.Chaining.{symbols-some}
use Rattle.starts.proofs.Packing.{joined-chunks, adui_flow, adui-adu}

module _ (flow : ℕ) (adu : List ℕ) (E : ℕ) (z : 4 ≤ E) where
  pub joined-symbols : joined (source_symbols flow adu E) ≡ adui flow adu E
  unfolding source_symbols
  joined-symbols = joined-chunks (symbol_count E (length adu)) E (adui flow adu E) (length-adui flow adu E (omega arith))

  -- Its length, by its first symbol.
  pub length-first : length adu ≤ 65535 → length_in (get_or (source_symbols flow adu E) 0 []) ≡ length adu
  unfolding part
  length-first h =
      let n = symbols-some E (length adu) (omega arith) in
      rw (symbol_at_lem flow adu E 0 n, symbol_first flow adu E (omega arith) n) (number-bytes 2 (length adu) (omega arith))

-- ADUs of one length that have the same symbols are the same, and so are their flows.
pub same_adu : (flow flow' : ℕ) (adu adu' : List ℕ) (E : ℕ) → 4 ≤ E → length adu ≡ length adu' → source_symbols flow adu E ≡ source_symbols flow' adu' E
    → (flow ≡ flow') × (adu ≡ adu')
same_adu flow flow' adu adu' E z n e =
    let a = adui flow adu E in
    let b = adui flow' adu' E in
    let s : a ≡ b = sym (joined-symbols flow adu E z) ∙ ap joined e ∙ joined-symbols flow' adu' E z in (
      sym (adui_flow flow adu E) ∙ ap (λ (l : List ℕ). get_or l 0 0) s ∙ adui_flow flow' adu' E,
      sym (adui-adu flow adu E) ∙ ap (λ (k : ℕ). part 3 k a) n ∙ ap (part 3 (length adu')) s
          ∙ adui-adu flow' adu' E,
    )
