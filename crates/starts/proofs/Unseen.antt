-- No position past the window is known.
use Rattle.std.specs.Prelude.{◌≡◌, ◌≤◌}
use Rattle.words.specs.Words.{ℕ, refl, suc, zero, None, not-suc-le-zero, le_of_suc-le-suc}
use Rattle.decoder.specs.Field.{Ops}
use Rattle.decoder.specs.Model.{State, end, free, pivot, known}

pub known_past : {O : Ops} {n : ℕ} (S : State O n) (i : ℕ) → n ≤ i → known S i ≡ None
unfolding known
known_past end i h = refl
known_past (free S) zero h = absurd (not-suc-le-zero h)
known_past (free S) (suc i) h = known_past S i (le_of_suc-le-suc h)
known_past (pivot r S) zero h = absurd (not-suc-le-zero h)
known_past (pivot r S) (suc i) h = known_past S i (le_of_suc-le-suc h)
