-- Computed from the definition: the example of document 02; quotients from 0 to the largest, with remainders up to one less than the divisor; and each
-- value just outside its limits.
use Rattle.std.specs.Prelude.{◌≡◌, ◌∷◌}
use Rattle.words.specs.Words.{refl, []}
use Rattle.latency.specs.Window.{divided, refused, window_of}

pub example : window_of 100001 33600000 1400 ≡ divided 300 33600000
example = refl

pub limits :
    window_of 1 1 4 ∷ window_of 1 31999999 4 ∷ window_of 1 32000000 4 ∷ window_of 1 10000000000 1500
    ∷ window_of 85333 33600000 1400 ∷ window_of 85334 33600000 1400
    ∷ window_of 10000000 10000000000 1500 ∷ window_of 10000000 10000000000 4 ∷ []
    ≡ divided 0 1 ∷ divided 0 31999999 ∷ divided 1 0 ∷ divided 0 10000000000
    ∷ divided 255 11188800000 ∷ divided 256 22400000
    ∷ divided 8333333 4000000000 ∷ divided 3125000000 0 ∷ []
limits = refl

pub outside :
    window_of 0 33600000 1400 ∷ window_of 10000001 33600000 1400 ∷ window_of 100001 0 1400 ∷ window_of 100001 10000000001 1400
    ∷ window_of 100001 33600000 3 ∷ window_of 100001 33600000 1501 ∷ window_of 0 0 0 ∷ []
    ≡ refused 1 ∷ refused 1 ∷ refused 1 ∷ refused 1 ∷ refused 1 ∷ refused 1 ∷ refused 1 ∷ []
outside = refl
