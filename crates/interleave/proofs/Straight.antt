-- A grid of one row or of one column is sent as it was taken.
use Rattle.std.specs.Prelude.{◌≡◌, ◌<◌, ◌*◌, ◌⊎◌}
use Rattle.words.specs.Words.{ℕ, List, length, ◌∙◌, inl, inr, zero-mul, zero-add, add-zero, mod-eq_of_lt}
use native.Mathlib.Nat.{div-eq_of_lt, div-one, mod-one, mul-one}
use Rattle.memory.proofs.Parts.{whole}
use Rattle.memory.specs.Part.{part}
use Rattle.interleave.specs.Grid.{interleaved}
use Rattle.interleave.proofs.Symbols.{symbols_same}
use Rattle.interleave.proofs.Sending.{order}

module _ (D L : ℕ) where
  -- each symbol is sent at its place in the order taken
  order-same : (D ≡ 1) ⊎ (L ≡ 1) → (p : ℕ) → p < D * L → order D L p ≡ p
  order-same (inl e) p h = rw (e, mod-one, zero-mul, zero-add, div-one)
  order-same (inr e) p h =
      let k : p < D = rw (e, mul-one) at h in
      rw (e, mod-eq_of_lt k, div-eq_of_lt k, mul-one, add-zero)

  pub straight : (E : ℕ) (src : List ℕ) → (D ≡ 1) ⊎ (L ≡ 1) → length src ≡ D * L * E → interleaved E D L src ≡ src
  straight E src o g =
      let each : (p : ℕ) → p < D * L → part (p * E) E src ≡ part (order D L p * E) E src = λ p h. rw (order-same o p h) in
      symbols_same E src (order D L) src (D * L) each ∙ whole (D * L * E) src g
