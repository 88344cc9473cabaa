-- Which positions the accepted packets have brought, from these packets alone (document 02, No. 6).
use Rattle.std.specs.Prelude.{◌≤◌, ◌+◌, ◌<◌, ◌∷◌, ◌⊎◌}
use Rattle.words.specs.Words.{ℕ, length, []}
use Rattle.history.specs.History.{Located, source, repair, Log}

-- A source packet brings the positions of its symbols; a repair packet brings none.
abbrev pub Brings : Located → ℕ → Type 0
Brings (source p symbols) x = (p ≤ x) × (x < p + length symbols)
Brings (repair p n coefficients symbols) x = ⊥

-- One of the packets has brought the position: it is heard, and a known position that none has brought is solved.
abbrev pub Brought : Log → ℕ → Type 0
Brought [] x = ⊥
Brought (q ∷ l) x = Brings q x ⊎ Brought l x
