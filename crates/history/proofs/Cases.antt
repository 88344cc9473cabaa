-- Readings and answers told apart.
use Rattle.std.specs.Prelude.{◌≡◌}
use Rattle.words.specs.Words.{ℕ, ap}
use Rattle.wire.specs.Answers.{Said, value, refusal}
use Rattle.history.specs.History.{Located, Reading, fails, located}

abbrev pub IsRefusal : Said → Type 0
IsRefusal (refusal m) = Unit {0}
IsRefusal (value k) = ⊥

-- The number of an answer.
abbrev pub numeral : Said → ℕ
numeral (value k) = k
numeral (refusal m) = m

abbrev pub IsLocated : Reading → Type 0
IsLocated (located q) = Unit {0}
IsLocated (fails m) = ⊥

abbrev pub packet_located : Located → Reading → Located
packet_located d (located q) = q
packet_located d (fails m) = d

pub packet_path : {q q' : Located} → located q ≡ located q' → q ≡ q'
packet_path {q} p = ap (packet_located q) p

abbrev pub number_in : Reading → ℕ
number_in (located q) = 0
number_in (fails m) = m
