-- Computed from the definitions: numbers of one digit and of more, and every hexadecimal digit.
use Rattle.std.specs.Prelude.{◌≡◌, ◌∷◌}
use Rattle.words.specs.Words.{refl, []}
use Rattle.text.specs.Text.{ascii, digit, decimal_within, decimal, hexadecimal}

pub numbers : decimal 0 ∷ decimal 9 ∷ decimal 10 ∷ decimal 255 ∷ decimal 1000000 ∷ decimal 18446744073709551615 ∷ []
    ≡ ascii "0" ∷ ascii "9" ∷ ascii "10" ∷ ascii "255" ∷ ascii "1000000" ∷ ascii "18446744073709551615" ∷ []
unfolding digit decimal_within decimal
numbers = refl

pub digits : hexadecimal (1 ∷ 35 ∷ 69 ∷ 103 ∷ 137 ∷ 171 ∷ 205 ∷ 239 ∷ []) ≡ ascii "0123456789ABCDEF"
unfolding digit hexadecimal
digits = refl
