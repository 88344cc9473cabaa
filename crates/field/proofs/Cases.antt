-- The bench sheet's cases C1 to C3, computed from the definitions.
use Rattle.std.specs.Prelude.{◌≡◌, ◌∷◌}
use Rattle.words.specs.Words.{refl, []}
use Rattle.field.specs.Gf256.{product}
use Rattle.field.specs.Powers.{inverse, inverse_below}

pub cases : product 2 128 ∷ product 3 7 ∷ inverse 2 ∷ [] ≡ 29 ∷ 9 ∷ 142 ∷ []
unfolding product inverse inverse_below
cases = refl
