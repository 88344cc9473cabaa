-- The first numbers drawn, and a name under which a computed fact unfolds the generator.
use Rattle.std.specs.Prelude.{◌∷◌}
use Rattle.words.specs.Words.{ℕ, List, [], suc, zero}
use Rattle.tinymt.specs.Generator.{xor_if_odd, step_q, step_y, step_of, temper, steps, mixed, seed_round, seeded, start_of, draw_of}

-- the first n numbers drawn from the words s
unfoldable pub first_draws : ℕ → List ℕ → List ℕ
first_draws zero s = []
first_draws (suc n) s = let d = draw_of s in d.value ∷ first_draws n d.state

-- a name for the `unfolding` line of a computed fact: to unfold it is to unfold all that a draw computes with
unfoldable pub computing : ℕ
unfolding xor_if_odd step_q step_y step_of temper steps mixed seed_round seeded start_of draw_of first_draws
computing = 0
