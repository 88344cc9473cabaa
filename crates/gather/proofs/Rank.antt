-- How many rows a system has: each row that is placed is one more, and there are no more than positions.
use Rattle.std.specs.Prelude.{◌≡◌, ◌≤◌}
use Rattle.words.specs.Words.{arith, ℕ, refl, ◌∙◌, sym, ap, suc, zero}
use mathlib.Core.Logic.{ite, if_pos}
use Rattle.decoder.specs.Field.{Ops, Laws}
use Rattle.decoder.specs.Model.{Row, State, end, free, pivot, Reduced, lead, reduce, place, place_free}
use Rattle.decoder.specs.Chain.{Chain, place_rows}
use Rattle.decoder.proofs.Chain.{chain_before, normal, normal_reduced, normal_leads}

module _ {O : Ops} (L : Laws O) where
  open O use {K, 𝟘, 𝟙, zero?}
  open L use {𝟙≢𝟘}

  abbrev rank : {n : ℕ} → State O n → ℕ
  rank end = 0
  rank (free S) = rank S
  rank (pivot r S) = suc (rank S)

  rank_most : {n : ℕ} (S : State O n) → rank S ≤ n
  rank_most end = omega arith
  rank_most (free S) = let h = rank_most S in omega arith
  rank_most (pivot r S) = let h = rank_most S in omega arith

  rank_place : {n : ℕ} (S : State O n) (e : Row O n) → Reduced S e → lead O n e ≡ 𝟙 → rank (place S e) ≡ suc (rank S)
  unfolding place place_free lead
  rank_place end e r l = absurd (𝟙≢𝟘 (sym l))
  rank_place (free {n} S) e r l = go (zero? e.0) l (λ l'. rank_place S e.1 r l')
    where
      go : (d : Dec (e.0 ≡ 𝟘)) → ite d (lead O n e.1) e.0 ≡ 𝟙 → (lead O n e.1 ≡ 𝟙 → rank (place S e.1) ≡ suc (rank S))
          → rank (place_free d (place S e.1) e.1 S) ≡ suc (rank S)
      go (yes z) l ih = ih l
      go (no z) l ih = refl
  rank_place (pivot {n} p S) e r l = ap suc (rank_place S e.1 r.1 (sym (if_pos (zero? e.0) r.0 (lead O n e.1) e.0) ∙ l))

  rank_chain : {n : ℕ} (S : State O n) (g : ℕ → Row O n) (k : ℕ) → Chain S g k → k ≤ rank (place_rows g k S)
  unfolding place_rows
  rank_chain S g zero c = omega arith
  rank_chain S g (suc k) c =
      let h = rank_chain S g k (chain_before L S g k c) in
      let e = rank_place (place_rows g k S) (g k) (c.reduced k (omega arith)) (c.leads k (omega arith)) in
      omega arith

  -- As many rows as there are positions leave no coefficient.
  pub full_lead : {n : ℕ} (S : State O n) (g : ℕ → Row O n) (k : ℕ) → Chain S g k → n ≤ k → (e : Row O n) → lead O n (reduce (place_rows g k S) e) ≡ 𝟘
  full_lead {n} S g k c h e = go (zero? (lead O n (reduce (place_rows g k S) e)))
    where
      go : Dec (lead O n (reduce (place_rows g k S) e) ≡ 𝟘) → lead O n (reduce (place_rows g k S) e) ≡ 𝟘
      go (yes z) = z
      go (no z) =
          let T = place_rows g k S in
          let low = rank_chain S g k c in
          let one = rank_place T (normal L T e) (normal_reduced L T e) (normal_leads L T e z) in
          let most = rank_most (place T (normal L T e)) in
          absurd (omega arith)
