-- Numbers that are allowed name a setting, and others name none.
use Rattle.std.specs.Prelude.{◌≡◌, ◌⊎◌}
use Rattle.words.specs.Words.{arith, ℕ, refl, sym, Some, None, true, Option, inl, inr}
use Rattle.wire.specs.declared.Scheme.{Scheme}
use Rattle.wire.specs.declared.Scheme.TheVariants.{Gf2, Gf256}
use Rattle.wire.specs.declared.Setting.{Setting}
use Rattle.wire.specs.Numbers.{within}
use Rattle.wire.specs.Settings.{scheme_number, scheme_of, in_range, setting_of}
use Rattle.wire.specs.Opening.{HaveValues, Allowed}
use Rattle.wire.proofs.Settings.{within_true, setting-names}

scheme_within : (a : ℕ) → (a ≡ 9) ⊎ (a ≡ 10) → within 9 10 a ≡ true
scheme_within a (inl e) = within_true 9 10 a (omega arith) (omega arith)
scheme_within a (inr e) = within_true 9 10 a (omega arith) (omega arith)

pub allowed-setting : (scheme E width : ℕ) → Allowed scheme E width
    → setting_of scheme E width ≡ Some (record { scheme = scheme_of scheme; size = E; width = width })
unfolding setting_of in_range
allowed-setting scheme E width (k, (e, e', w, w')) = rw (scheme_within scheme k, within_true 4 1500 E e e', within_true 1 255 width w w')

number_of : (x : Scheme) (a : ℕ) → scheme_number x ≡ a → (a ≡ 9) ⊎ (a ≡ 10)
number_of Gf2 a e = inl (sym e)
number_of Gf256 a e = inr (sym e)

pub setting-none : (scheme E width : ℕ) → ¬ Allowed scheme E width → setting_of scheme E width ≡ None
setting-none scheme E width n = go (setting_of scheme E width) refl
  where
    go : (x : Option Setting) → setting_of scheme E width ≡ x → x ≡ None
    go None e = refl
    go (Some s) e =
        let g = setting-names scheme E width s e in
        let v = g.valid in
        let values : HaveValues E width = (
          omega (arith, g.size, v.size_least),
          omega (arith, g.size, v.size_most),
          omega (arith, g.width, v.width_least),
          omega (arith, g.width, v.width_most),
        ) in
        absurd (n (number_of s.scheme scheme g.scheme, values))
