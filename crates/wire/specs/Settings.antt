-- What an end is opened with (document 01, "Words and sizes"). Both ends find refusal 1 by these definitions.
use Rattle.std.specs.Prelude.{◌≤◌, ◌&&◌}
use Rattle.words.specs.Words.{ℕ, Some, None, Bool, Option, cond, eqb}
use Rattle.wire.specs.Numbers.{within}
use Rattle.wire.specs.declared.Scheme.{Scheme}
use Rattle.wire.specs.declared.Scheme.TheVariants.{Gf2, Gf256}
use Rattle.wire.specs.declared.Setting.{Setting}

-- the number of a scheme, and the scheme of a number that is 9 or 10
abbrev pub scheme_number : Scheme → ℕ
scheme_number Gf2 = 9
scheme_number Gf256 = 10

abbrev pub scheme_of : ℕ → Scheme
scheme_of n = cond (eqb n 9) Gf2 Gf256

-- scheme, E and width have their values
unfoldable pub in_range : ℕ → ℕ → ℕ → Bool
in_range scheme size width = within 9 10 scheme && (within 4 1500 size && within 1 255 width)

-- the setting that the three numbers of an opening name; none, refusal 1, where one is out of its values
unfoldable pub setting_of : ℕ → ℕ → ℕ → Option Setting
setting_of scheme size width =
    cond (in_range scheme size width) (Some (record { scheme = scheme_of scheme; size = size; width = width })) None

-- a setting's E and width have their values
pub record Valid (s : Setting) : Type 0 where
  pub size_least : 4 ≤ s.size
  pub size_most : s.size ≤ 1500
  pub width_least : 1 ≤ s.width
  pub width_most : s.width ≤ 255
