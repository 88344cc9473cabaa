-- The ways out of the checks, and what a packet that passes is.
-- Ways out: source_short, source_misnamed, source-long, source_good; repair_sized, repair_misnamed, repair_good. What passes: SourcePasses, source_passes;
-- RepairPasses, repair_passes. What fails: source_bad, repair_bad.
use Rattle.std.specs.Prelude.{◌≡◌, ◌≤◌, ◌≢◌, ◌+◌, ◌<◌, ◌-◌, Result, Ok, Err}
use Rattle.words.specs.Words.{arith, ℕ, length, List, refl, ◌∙◌, sym, ap, true, false, Bool, subst, cond, leb, ltb, eqb, leb-true, ltb-true, eqb-true}
use Rattle.wire.specs.declared.Refusal.{Refusal}
use Rattle.wire.specs.Numbers.{number_of}
use Rattle.wire.proofs.Settings.{both}
use Rattle.wire.specs.declared.Refusal.TheVariants as refusals
use Rattle.blocks.specs.declared.Block.{Block}
use Rattle.blocks.specs.declared.identifier.Identifier.{Identifier}
use Rattle.blocks.specs.Identifiers.{identifier_at}
use Rattle.block_receiver.specs.Reading.{names, names_source, names_repair, source_check, repair_check}

module _ (b : Block) (p : List ℕ) where
  pub source_short : leb 6 (length p) ≡ false → Err refusals.Form ≡ source_check b p
  unfolding source_check
  source_short e = rw e

  module _ (e : leb 6 (length p) ≡ true) where
    pub source_misnamed : names_source b (identifier_at p (length p - 6)) ≡ false → Err refusals.Block ≡ source_check b p
    unfolding source_check
    source_misnamed f = rw (e, f)

    module _ (f : names_source b (identifier_at p (length p - 6)) ≡ true) where
      pub source-long : leb (length p - 3) b.size ≡ false → Err refusals.Long ≡ source_check b p
      unfolding source_check
      source-long g = rw (e, f, g)

      pub source_good : leb (length p - 3) b.size ≡ true → Ok (identifier_at p (length p - 6)).esi ≡ source_check b p
      unfolding source_check
      source_good g = rw (e, f, g)

  pub repair_sized : eqb (length p) (6 + b.size) ≡ false → Err refusals.Form ≡ repair_check b p
  unfolding repair_check
  repair_sized e = rw e

  module _ (e : eqb (length p) (6 + b.size) ≡ true) where
    pub repair_misnamed : names_repair b (identifier_at p 0) ≡ false → Err refusals.Block ≡ repair_check b p
    unfolding repair_check
    repair_misnamed f = rw (e, f)

    pub repair_good : names_repair b (identifier_at p 0) ≡ true → Ok (identifier_at p 0).esi ≡ repair_check b p
    unfolding repair_check
    repair_good f = rw (e, f)

-- ---- What a packet that passes is

abbrev IsGood : Result ℕ Refusal → Type 0
IsGood (Ok e) = Unit {0}
IsGood (Err r) = ⊥

abbrev esi_of : Result ℕ Refusal → ℕ
esi_of (Ok e) = e
esi_of (Err r) = 0

abbrev reason_of : Result ℕ Refusal → ℕ
reason_of (Ok e) = 0
reason_of (Err r) = number_of r

-- No check says 3.
not_three : (x : Refusal) (y : Result ℕ Refusal) → y ≡ Err x → reason_of y ≢ 3 → number_of x ≢ 3
not_three x y e n q = n (ap reason_of e ∙ q)

pub source_bad : (b : Block) (p : List ℕ) (x : Refusal) → source_check b p ≡ Err x → number_of x ≢ 3
unfolding source_check
source_bad b p x e = not_three x _ e (go (leb 6 (length p)) (names_source b id) (leb (length p - 3) b.size))
  where
    id : Identifier
    id = identifier_at p (length p - 6)

    go : (s t u : Bool) → reason_of (cond s (cond t (cond u (Ok id.esi) (Err refusals.Long)) (Err refusals.Block)) (Err refusals.Form)) ≢ 3
    go true true true q = omega (arith, q)
    go true true false q = omega (arith, q)
    go true false u q = omega (arith, q)
    go false t u q = omega (arith, q)

pub repair_bad : (b : Block) (p : List ℕ) (x : Refusal) → repair_check b p ≡ Err x → number_of x ≢ 3
unfolding repair_check
repair_bad b p x e = not_three x _ e (go (eqb (length p) (6 + b.size)) (names_repair b id))
  where
    id : Identifier
    id = identifier_at p 0

    go : (s t : Bool) → reason_of (cond s (cond t (Ok id.esi) (Err refusals.Block)) (Err refusals.Form)) ≢ 3
    go true true q = omega (arith, q)
    go true false q = omega (arith, q)
    go false t q = omega (arith, q)

pub record SourcePasses (b : Block) (p : List ℕ) (e : ℕ) : Type 0 where
  pub whole : 6 ≤ length p
  pub short : length p - 3 ≤ b.size
  pub inside : e < b.k

pub source_passes : (b : Block) (p : List ℕ) (e : ℕ) → source_check b p ≡ Ok e → SourcePasses b p e
unfolding source_check
source_passes b p e q = go (leb 6 (length p)) refl (names_source b id) refl (leb (length p - 3) b.size) refl q
  where
    id : Identifier
    id = identifier_at p (length p - 6)

    go : (s : Bool) → leb 6 (length p) ≡ s → (t : Bool) → names_source b id ≡ t → (u : Bool) → leb (length p - 3) b.size ≡ u
        → cond s (cond t (cond u (Ok id.esi) (Err refusals.Long)) (Err refusals.Block)) (Err refusals.Form) ≡ Ok e → SourcePasses b p e
    go true s true t true u q = record {
      whole = leb-true _ _ s;
      short = leb-true _ _ u;
      inside = subst (λ (n : ℕ). n < b.k) (ap esi_of q) (ltb-true _ _ (both (names b id) (ltb id.esi b.k) t).1);
    }
    go true s true t false u q = absurd (subst IsGood (sym q) tt)
    go true s false t u v q = absurd (subst IsGood (sym q) tt)
    go false s t v u w q = absurd (subst IsGood (sym q) tt)

pub record RepairPasses (b : Block) (p : List ℕ) (e : ℕ) : Type 0 where
  pub sized : length p ≡ 6 + b.size
  pub past : b.k ≤ e
  pub inside : e < b.total

pub repair_passes : (b : Block) (p : List ℕ) (e : ℕ) → repair_check b p ≡ Ok e → RepairPasses b p e
unfolding repair_check
repair_passes b p e q = go (eqb (length p) (6 + b.size)) refl (names_repair b id) refl q
  where
    id : Identifier
    id = identifier_at p 0

    go : (s : Bool) → eqb (length p) (6 + b.size) ≡ s → (t : Bool) → names_repair b id ≡ t
        → cond s (cond t (Ok id.esi) (Err refusals.Block)) (Err refusals.Form) ≡ Ok e → RepairPasses b p e
    go true s true t q =
        let h = both (leb b.k id.esi) _ (both (names b id) _ t).1 in
        record {
          sized = eqb-true _ _ s;
          past = subst (λ (n : ℕ). b.k ≤ n) (ap esi_of q) (leb-true _ _ h.0);
          inside = subst (λ (n : ℕ). n < b.total) (ap esi_of q) (ltb-true _ _ h.1);
        }
    go true s false t q = absurd (subst IsGood (sym q) tt)
    go false s t u q = absurd (subst IsGood (sym q) tt)
