-- Which numbers name a block, and which refusal others meet.
-- A test and what it says: values_true, values_false, values_told. What numbers name: named_good, bad_size, bad_values, good_names.
use Rattle.std.specs.Prelude.{◌≡◌, ◌≤◌, Result, Ok, Err}
use Rattle.words.specs.Words.{arith, ℕ, refl, sym, ap, true, false, Bool, subst, cond, leb, le-leb, lt-ltb, leb-true, ltb-true}
use Rattle.wire.specs.declared.Refusal.TheVariants as refusals
use Rattle.wire.specs.Numbers.{within}
use Rattle.wire.specs.Settings as settings
use Rattle.wire.proofs.Settings.{within_true, within_bounds, both}
use Rattle.blocks.specs.declared.Block.{Block}
use Rattle.blocks.specs.Block.{HaveValues, has_values, block_of, Valid, setting_for}
use Rattle.wire.specs.declared.Refusal.{Refusal}

pub values_true : (k total number : ℕ) → HaveValues k total number → has_values k total number ≡ true
unfolding has_values
values_true k total number (a, b, c, d) = rw (within_true 1 total k a b, le-leb total 255 c, lt-ltb number 16777216 d)

pub values_told : (k total number : ℕ) → has_values k total number ≡ true → HaveValues k total number
unfolding has_values
values_told k total number e =
    let p = both (within 1 total k) _ e in
    let q = both (leb total 255) _ p.1 in
    let b = within_bounds 1 total k p.0 in
    (b.0, b.1, leb-true total 255 q.0, ltb-true number 16777216 q.1)

pub values_false : (k total number : ℕ) → ¬ HaveValues k total number → has_values k total number ≡ false
values_false k total number n = go (has_values k total number) refl
  where
    go : (b : Bool) → has_values k total number ≡ b → b ≡ false
    go true e = absurd (n (values_told k total number e))
    go false e = refl

-- The block of four numbers.
abbrev pub block_from : (E k total number : ℕ) → Block
block_from E k total number = record { size = E; k = k; total = total; number = number }

module _ (E k total number : ℕ) where
  pub bad_size : ¬ ((4 ≤ E) × (E ≤ 1500)) → block_of E k total number ≡ Err refusals.Values
  unfolding block_of
  bad_size n = go (within 4 1500 E) refl
    where
      go : (b : Bool) → within 4 1500 E ≡ b → cond b (cond (has_values k total number) (Ok (block_from E k total number)) (Err refusals.Block)) (Err refusals.Values)
          ≡ Err refusals.Values
      go true e = absurd (n (within_bounds 4 1500 E e))
      go false e = refl

  pub bad_values : 4 ≤ E → E ≤ 1500 → ¬ HaveValues k total number → block_of E k total number ≡ Err refusals.Block
  unfolding block_of
  bad_values a b n = rw (within_true 4 1500 E a b, values_false k total number n)

  pub named_good : 4 ≤ E → E ≤ 1500 → HaveValues k total number → block_of E k total number ≡ Ok (block_from E k total number)
  unfolding block_of
  named_good a b v = rw (within_true 4 1500 E a b, values_true k total number v)

  abbrev block_is : Result Block Refusal → Block
  block_is (Ok b) = b
  block_is (Err r) = block_from E k total number

  abbrev IsGood : Result Block Refusal → Type 0
  IsGood (Ok b) = Unit {0}
  IsGood (Err r) = ⊥

  -- A block that was named is that of the numbers, and valid.
  pub good_names : (b : Block) → block_of E k total number ≡ Ok b → (b ≡ block_from E k total number) × Valid b
  unfolding block_of
  good_names b e = go (within 4 1500 E) refl (has_values k total number) refl
    where
      go : (x : Bool) → within 4 1500 E ≡ x → (y : Bool) → has_values k total number ≡ y → (b ≡ block_from E k total number) × Valid b
      go false f y g = absurd (subst IsGood (rw f at (sym e)) tt)
      go true f false g = absurd (subst IsGood (rw (f, g) at (sym e)) tt)
      go true f true g =
          let is : b ≡ block_from E k total number = ap block_is (rw (f, g) at (sym e)) in
          let s = within_bounds 4 1500 E f in
          (is, subst Valid (sym is) (record { size_least = s.0; size_most = s.1; values = values_told k total number g }))

-- The setting of a valid block is valid.
pub setting_valid : (b : Block) → Valid b → settings.Valid (setting_for b)
setting_valid b v =
    let w = v.values in
    record { size_least = v.size_least; size_most = v.size_most; width_least = w.0; width_most = omega (arith, w.1, w.2) }
