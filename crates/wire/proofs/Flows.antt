-- The test tells which flows are announced.
use Rattle.std.specs.Prelude.{◌≡◌, ◌↔◌}
use Rattle.words.specs.Words.{ℕ, List, true, false, eqb-true, eq-eqb, ne_eqb}
use Rattle.wire.specs.Flows.{Announced, announced}

pub announced_exactly : (flows : List ℕ) (F : ℕ) → (announced flows F ≡ true) ↔ Announced flows F
unfolding announced
announced_exactly flows F = (eqb-true _ 1, eq-eqb _ 1)

pub announced-not : (flows : List ℕ) (F : ℕ) → ¬ Announced flows F → announced flows F ≡ false
unfolding announced
announced-not flows F n = ne_eqb _ 1 n
