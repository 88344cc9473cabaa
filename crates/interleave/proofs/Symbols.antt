-- Symbols that are picked out of a memory, one after the other: their length, each of them, one more, and that they are all.
use Rattle.std.specs.Prelude.{◌≡◌, ◌≤◌, ◌+◌, ◌<◌, ◌*◌}
use Rattle.words.specs.Words.{arith, ℕ, List, length, sym, suc, zero, dec_lt, zero-mul, suc-mul, zero-add, add-one, length-append}
use Rattle.words.specs.Words.{drop, length-drop, take_all}
use lib.Seq.{take-append-le, drop-append-le, drop-append_seam}
use Rattle.memory.specs.Part.{part, splice}
use Rattle.memory.proofs.Parts.{length_part, part_none, part-add, row_fits, splice_next}
use Rattle.interleave.specs.Grid.{symbols_from}

module _ (E : ℕ) (m : List ℕ) (from : ℕ → ℕ) where
  -- n symbols that stand at their places in x are all of it up to there
  pub symbols_same : (x : List ℕ) (n : ℕ) → ((p : ℕ) → p < n → part (p * E) E x ≡ part (from p * E) E m) → symbols_from E m from n ≡ part 0 (n * E) x
  unfolding symbols_from
  symbols_same x zero h = rw zero-mul (sym (part_none 0 x))
  symbols_same x (suc n) h =
      cc (symbols_same x n (λ p k. h p (omega arith)), h n (omega arith), suc-mul n E, part-add 0 (n * E) E x, zero-add (n * E))

  module _ (N : ℕ) (fits : (p : ℕ) → p < N → from p * E + E ≤ length m) where
    pub symbols-length : (n : ℕ) → n ≤ N → length (symbols_from E m from n) ≡ n * E
    unfolding symbols_from
    symbols-length zero h = omega arith
    symbols-length (suc n) h =
        simp (length-append, symbols-length n (omega arith), length_part (from n * E) E m (fits n (omega arith)), suc-mul) (omega arith)

    -- the symbol at a place
    pub symbols-part : (n p : ℕ) → n ≤ N → p < n → part (p * E) E (symbols_from E m from n) ≡ part (from p * E) E m
    unfolding symbols_from part
    symbols-part zero p h k = absurd (omega arith)
    symbols-part (suc n) p h k = go (dec_lt p n) (symbols-part n p (omega arith))
      where
        l : length (symbols_from E m from n) ≡ n * E
        l = symbols-length n (omega arith)

        go : Dec (p < n) → (p < n → part (p * E) E (symbols_from E m from n) ≡ part (from p * E) E m)
            → part (p * E) E (symbols_from E m from (suc n)) ≡ part (from p * E) E m
        go (yes b) old =
            let f : p * E + E ≤ length (symbols_from E m from n) = omega (arith, row_fits n E p b, l) in
            let d : E ≤ length (drop (p * E) (symbols_from E m from n)) = simp length-drop (omega arith) in
            rw (drop-append-le (p * E) (symbols_from E m from n) _ (omega arith), take-append-le E (drop (p * E) (symbols_from E m from n)) _ d)
            (old b)
        go (no b) old =
            let e : p ≡ n = omega arith in
            let x : length (part (from n * E) E m) ≡ E = length_part (from n * E) E m (fits n (omega arith)) in
            rw (e, ← l, drop-append_seam) (take_all E (part (from n * E) E m) (omega arith))

    -- one symbol more in the output
    pub symbols-more : (out : List ℕ) (n : ℕ) → n < N
        → splice (n * E) (part (from n * E) E m) (splice 0 (symbols_from E m from n) out) ≡ splice 0 (symbols_from E m from (n + 1)) out
    unfolding symbols_from
    symbols-more out n h =
        let l : length (symbols_from E m from n) ≡ n * E = symbols-length n (omega arith) in
        rw (add-one, ← l, ← zero-add (length (symbols_from E m from n))) (splice_next 0 (symbols_from E m from n) (part (from n * E) E m) out (omega arith))
