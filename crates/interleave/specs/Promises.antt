-- What the two calls promise, outright. `src` is the input, `out` the output before the call and `out'` after it, and
-- `a` the answer.
use Rattle.std.specs.Prelude.{◌≡◌, Result}
use Rattle.words.specs.Words.{ℕ, List, length}
use Rattle.wire.specs.Answers.{said}
use Rattle.interleave.specs.Grid.{interleaved, deinterleaved, answer_to, output_after}
use Rattle.wire.specs.declared.Refusal.{Refusal}

-- of a call that writes the bytes `x`
pub record Rearranges (E D L : ℕ) (x src out : List ℕ) (a : Result ℕ Refusal) (out' : List ℕ) : Type 0 where
  pub answer : said a ≡ answer_to E D L (length src) (length out)
  pub output : out' ≡ output_after (said a) x out

abbrev pub Interleaves : (E D L : ℕ) (src out : List ℕ) → Result ℕ Refusal → (out' : List ℕ) → Type 0
Interleaves E D L src out a out' = Rearranges E D L (interleaved E D L src) src out a out'

abbrev pub Deinterleaves : (E D L : ℕ) (src out : List ℕ) → Result ℕ Refusal → (out' : List ℕ) → Type 0
Deinterleaves E D L src out a out' = Rearranges E D L (deinterleaved E D L src) src out a out'
