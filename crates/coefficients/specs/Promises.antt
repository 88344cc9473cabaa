-- What the calls of this crate promise. Refusal 10 is the answer `Err Draws`; what the output then holds is free, but for what is said here.
use Rattle.std.specs.Prelude.{◌≡◌, ◌*◌, ◌++◌, Result, Ok, Err}
use Rattle.words.specs.Words.{ℕ, List, length, true, false, Bool, drop}
use Rattle.wire.specs.declared.Scheme.{Scheme}
use Rattle.wire.specs.Packets.{joined}
use Rattle.coefficients.specs.Coefficients.{Coefficients, lists_of, all_ok, draws_of}
use Rattle.wire.specs.declared.Refusal.{Refusal}
use Rattle.wire.specs.declared.Refusal.TheVariants as refusals

-- the answer: done, with so many draws, or refused
abbrev pub filled_of : Bool → ℕ → Result ℕ Refusal
filled_of true draws = Ok draws
filled_of false draws = Err refusals.Draws

-- one list: the answer with the draws that the list took, and, where it was done, every byte of the output; refused, the output keeps its length
pub record Fills (l : Coefficients) (out : List ℕ) (r : Result ℕ Refusal) (out' : List ℕ) : Type 0 where
  pub answer : r ≡ filled_of l.ok l.draws
  pub size : length out' ≡ length out
  pub bytes : (d : ℕ) → r ≡ Ok d → out' ≡ l.list

-- the lists of the keys, of n coefficients each: the answer with the draws of all of them, and, where it was done, the lists one after the other, then
-- what stood past them; refused, the output keeps its length and the bytes past the lists
pub record FillsLists (scheme : Scheme) (dt n : ℕ) (ks out : List ℕ) (r : Result ℕ Refusal) (out' : List ℕ) : Type 0 where
  pub answer : r ≡ filled_of (all_ok scheme dt n ks) (draws_of scheme dt n ks)
  pub size : length out' ≡ length out
  pub bytes : (d : ℕ) → r ≡ Ok d → out' ≡ joined (lists_of scheme dt n ks) ++ drop (length ks * n) out
  pub past : drop (length ks * n) out' ≡ drop (length ks * n) out
