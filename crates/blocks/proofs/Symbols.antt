-- An ADU of at most E - 3 bytes is one symbol.
-- Laws: one_symbol, only_symbol, symbol_sized.
use Rattle.std.specs.Prelude.{◌≡◌, ◌≤◌, ◌+◌, ◌<◌, ◌∷◌}
use Rattle.words.specs.Words.{arith, ℕ, List, length, ◌∙◌, sym, ap, [], zero-mul}
use native.Mathlib.Nat.{div-eq_of_lt-le}
use Rattle.memory.specs.Part.{part}
use Rattle.wire.specs.Packets.{symbol_count, adui, chunks, source_symbols, symbol_at}
use Rattle.wire.proofs.Adui.{symbol_at_lem, symbol_length}

pub one_symbol : (E L : ℕ) → 3 + L ≤ E → symbol_count E L ≡ 1
unfolding symbol_count
one_symbol E L h = div-eq_of_lt-le E (omega arith) (omega arith)

pub only_symbol : (flow : ℕ) (adu : List ℕ) (E : ℕ) → 3 + length adu ≤ E → source_symbols flow adu E ≡ symbol_at flow adu E 0 ∷ []
unfolding source_symbols part
only_symbol flow adu E h =
    ap (λ (n : ℕ). chunks n E (adui flow adu E)) (one_symbol E (length adu) h)
    ∙ ap (λ (a : ℕ). part a E (adui flow adu E) ∷ []) (sym (zero-mul E))

pub symbol_sized : (flow : ℕ) (adu : List ℕ) (E : ℕ) → 3 + length adu ≤ E → length (symbol_at flow adu E 0) ≡ E
symbol_sized flow adu E h =
    let l : 0 < symbol_count E (length adu) = omega (arith, one_symbol E (length adu) h) in
    ap length (sym (symbol_at_lem flow adu E 0 l)) ∙ symbol_length flow adu E (omega arith) 0 l
