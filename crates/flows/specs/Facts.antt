-- Computed from the definitions, for all 256 flows: the bytes that announcing 0, 7, 8 and 255 leaves, one after the other, from bytes that are all zero;
-- and that announcing one of them again leaves.
use Rattle.std.specs.Prelude.{◌≡◌, ◌∷◌, ◌||◌}
use Rattle.words.specs.Words.{ℕ, List, refl, [], Bool, eqb, map}
use Rattle.wire.specs.Flows.{announced}
use Rattle.wire.specs.Facts.{under, announcing, announced_in}

-- which flows have to be announced after one flow more
abbrev with : (flow : ℕ) (flows : List ℕ) → List Bool
with flow flows = map (λ (F : ℕ). eqb F flow || announced flows F) (under 256)

pub onward :
    announced_in (announcing 0x01 0 0) ∷ announced_in (announcing 0x81 0 0) ∷ announced_in (announcing 0x81 0x01 0)
    ∷ announced_in (announcing 0x81 0x01 0x80) ∷ announced_in (announcing 0x81 0x01 0x80) ∷ []
    ≡ with 0 (announcing 0 0 0) ∷ with 7 (announcing 0x01 0 0) ∷ with 8 (announcing 0x81 0 0) ∷ with 255 (announcing 0x81 0x01 0)
    ∷ with 7 (announcing 0x81 0x01 0x80) ∷ []
unfolding announced
onward = refl
