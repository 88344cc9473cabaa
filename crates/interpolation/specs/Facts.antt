-- Computed from the definitions: the coefficients of source and repair symbols in blocks of one to five source symbols, and all symbols of a block.
-- A computation by Vandermonde's matrices, as RFC 5510 has it, gives the same.
use Rattle.std.specs.Prelude.{◌≡◌, ◌∷◌}
use Rattle.words.specs.Words.{refl, [], map, get_or}
use Rattle.field.specs.Gf256.{product}
use Rattle.field.specs.Powers.{power, inverse, inverse_below}
use Rattle.interpolation.specs.Lagrange.{lagranges, lagrange, encoded}

-- of one source symbol, which every symbol repeats, and of two
pub one-and-two :
    map (lagranges 1) (0 ∷ 1 ∷ 254 ∷ []) ∷ map (lagranges 2) (1 ∷ 2 ∷ 254 ∷ []) ∷ []
    ≡ ((1 ∷ []) ∷ (1 ∷ []) ∷ (1 ∷ []) ∷ []) ∷ ((0 ∷ 1 ∷ []) ∷ (2 ∷ 3 ∷ []) ∷ (143 ∷ 142 ∷ []) ∷ []) ∷ []
unfolding lagranges lagrange power inverse inverse_below product
one-and-two = refl

-- of three, four and five
pub more :
    lagranges 3 1 ∷ lagranges 3 3 ∷ lagranges 3 254 ∷ lagranges 4 100 ∷ lagranges 5 7 ∷ []
    ≡ (0 ∷ 1 ∷ 0 ∷ []) ∷ (8 ∷ 14 ∷ 7 ∷ []) ∷ (200 ∷ 100 ∷ 173 ∷ []) ∷ (5 ∷ 203 ∷ 208 ∷ 31 ∷ []) ∷ (58 ∷ 2 ∷ 18 ∷ 127 ∷ 84 ∷ []) ∷ []
unfolding lagranges lagrange power inverse inverse_below product
more = refl

-- the symbols 0 to 5 of a block of three source symbols of one byte
pub symbols : map (encoded 3 (λ i. get_or (255 ∷ 0 ∷ 17 ∷ []) i 0)) (0 ∷ 1 ∷ 2 ∷ 3 ∷ 4 ∷ 5 ∷ []) ≡ 255 ∷ 0 ∷ 17 ∷ 220 ∷ 192 ∷ 174 ∷ []
unfolding encoded lagrange power inverse inverse_below product
symbols = refl
