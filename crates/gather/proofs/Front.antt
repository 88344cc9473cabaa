-- An equation without coefficients at the oldest positions has none there when it is reduced: a row has none before its pivot.
use Rattle.std.specs.Prelude.{◌≡◌, ◌≤◌, ◌<◌, ◌+◌ as ◌+ₙ◌}
use Rattle.words.specs.Words.{arith, ℕ, refl, ◌∙◌, sym, ap, suc, zero, subst, ap₂, ℕ_discrete}
use Rattle.decoder.specs.Field.{Ops, Laws}
use Rattle.decoder.specs.Model.{Row, State, end, free, pivot, axpy, reduce}
use Rattle.decoder.specs.Table.{Line, read}

module _ {O : Ops} (L : Laws O) where
  open O use {K, 𝟘, ◌+◌, ◌*◌, ◌⊕◌, ◌•◌}
  open L use {+-𝟘, *-comm, *-𝟘, ⊕-null, 𝟘-•}

  infixl 50 ◌+◌
  infixl 60 ◌*◌
  infixl 50 ◌⊕◌
  infixr 60 ◌•◌
  -- The first `d` coefficients are zero.
  abbrev pub Front : (n d : ℕ) → Row O n → Type 0
  Front zero d e = Unit {0}
  Front (suc n) zero e = Unit {0}
  Front (suc n) (suc d) e = (e.0 ≡ 𝟘) × Front n d e.1

  axpy_zero : (n : ℕ) (k : K) (r e : Row O n) → k ≡ 𝟘 → axpy O n k r e ≡ e
  unfolding axpy
  axpy_zero zero k r e z = ap (λ a. e ⊕ a • r) z ∙ ap (λ v. e ⊕ v) (𝟘-• r) ∙ ⊕-null e
  axpy_zero (suc n) k r e z =
      ap₂ (λ a t. (a, t)) (ap (λ a. e.0 + a * r.0) z ∙ ap (λ a. e.0 + a) (*-comm 𝟘 r.0 ∙ *-𝟘 r.0) ∙ +-𝟘 e.0) (axpy_zero n k r.1 e.1 z)

  pub reduce_front : {n : ℕ} (S : State O n) (d : ℕ) (e : Row O n) → Front n d e → Front n d (reduce S e)
  unfolding reduce
  reduce_front end d e f = tt
  reduce_front (free S) zero e f = tt
  reduce_front (free S) (suc d) e f = (f.0, reduce_front S d e.1 f.1)
  reduce_front (pivot r S) zero e f = tt
  reduce_front (pivot {n} r S) (suc d) e f =
      (refl, reduce_front S d (axpy O n e.0 r e.1) (subst (Front n d) (sym (axpy_zero n e.0 r e.1 f.0)) f.1))

  -- The same of a line.
  pub read_front : (e : Line O) (n q d : ℕ) → ((j : ℕ) → q ≤ j → j < q +ₙ d → e.cells j ≡ 𝟘) → Front n d (read e n q)
  unfolding read
  read_front e zero q d z = tt
  read_front e (suc n) q zero z = tt
  read_front e (suc n) q (suc d) z = (z q (omega arith) (omega arith), read_front e n (suc q) d (λ j g l. z j (omega arith) (omega arith)))

  pub front_read : (e : Line O) (n q d : ℕ) → d ≤ n → Front n d (read e n q) → (j : ℕ) → q ≤ j → j < q +ₙ d → e.cells j ≡ 𝟘
  unfolding read
  front_read e zero q d h f j g l = absurd (omega arith)
  front_read e (suc n) q zero h f j g l = absurd (omega arith)
  front_read e (suc n) q (suc d) h f j g l = go (ℕ_discrete q j) (λ g'. front_read e n (suc q) d (omega arith) f.1 j g' (omega arith))
    where
      go : Dec (q ≡ j) → (suc q ≤ j → e.cells j ≡ 𝟘) → e.cells j ≡ 𝟘
      go (yes x) ih = ap e.cells (sym x) ∙ f.0
      go (no x) ih = ih (omega arith)
