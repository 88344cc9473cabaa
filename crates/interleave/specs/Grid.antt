-- A grid of D rows by L columns of symbols of E bytes as the two calls write it, and what they answer, outright.
use Rattle.std.specs.Prelude.{◌%◌, ◌*◌, ◌++◌, ◌/◌, ◌&&◌}
use Rattle.words.specs.Words.{ℕ, List, [], suc, zero, Bool, cond, ltb, eqb}
use Rattle.memory.specs.Part.{part, splice}
use Rattle.wire.specs.Numbers.{within}
use Rattle.wire.specs.Answers.{Said, value, refusal}
use Rattle.interleave.specs.Places.{taken_at, sent_at}

-- n symbols: at each place p the symbol at place `from p` of m
unfoldable pub symbols_from : (E : ℕ) (m : List ℕ) (from : ℕ → ℕ) (n : ℕ) → List ℕ
symbols_from E m from zero = []
symbols_from E m from (suc n) = symbols_from E m from n ++ part (from n * E) E m

-- a grid in send order: at place p the symbol in row p mod D and column p div D
abbrev pub interleaved : (E D L : ℕ) → List ℕ → List ℕ
interleaved E D L m = symbols_from E m (λ (p : ℕ). taken_at L (p % D) (p / D)) (D * L)

-- and, from that, in the order taken: at place p the symbol in row p div L and column p mod L
abbrev pub deinterleaved : (E D L : ℕ) → List ℕ → List ℕ
deinterleaved E D L m = symbols_from E m (λ (p : ℕ). sent_at D (p / L) (p % L)) (D * L)

-- D and L have their values, and so many bytes are those of the grid
abbrev pub is_grid : (E D L bytes : ℕ) → Bool
is_grid E D L bytes = within 1 255 D && (within 1 255 L && eqb bytes (D * L * E))

-- the answer to `given` bytes of input, with `room` bytes of output: 1, 17, 2, else the bytes written
abbrev pub answer_to : (E D L given room : ℕ) → Said
answer_to E D L given room =
    cond (within 4 1500 E)
    (cond (is_grid E D L given)
    (cond (ltb room given) (refusal 2) (value given))
    (refusal 17))
    (refusal 1)

-- the output after an answer: with what is written at its front; a refusal leaves it
abbrev pub output_after : Said → (written out : List ℕ) → List ℕ
output_after (value n) x out = splice 0 x out
output_after (refusal n) x out = out
