-- Contracts of the functions that read lines, over how lines are read (Reading).
use Rattle.std.specs.Prelude.{◌≡◌, ◌≤◌, ◌<◌, ◌∷◌, ◌&&◌}
use Rattle.words.specs.Words.{ℕ, List, length, [], Some, true, None, get_or, Bool, Option, take, ltb}
use Rattle.history.specs.History.{Call, source-call, repair-call}
use denote.Ref.{Bor}
use Rattle.lines.specs.declared.First.{First}
use Rattle.lines.specs.declared.Spoken.{Spoken}
use Rattle.lines.specs.declared.Spoken.TheVariants.{Source, Repair}
use Rattle.lines.specs.Forms.{Values}
use Rattle.lines.specs.Reading.{Numbered, value_of}

-- no line of the input x ends within its first n bytes
abbrev pub NoEnd : (x : List ℕ) (n : ℕ) → Type 0
NoEnd x n = (k : ℕ) → k < n → get_or x k 0 ≡ 10 → ⊥

-- the first line of the input x ends at r
pub record Ends (x : List ℕ) (r : ℕ) : Type 0 where
  pub within : r ≤ length x
  pub before : (k : ℕ) → k < r → get_or x k 0 ≡ 10 → ⊥
  pub found : r < length x → get_or x r 0 ≡ 10

-- a number that was read at the front of the line l, with what follows it, and its limits
abbrev pub numbered : Option (ℕ × Bor (List ℕ)) → Option Numbered
numbered (Some (v, rest)) = Some (record { value = v; rest = rest.now })
numbered None = None

abbrev pub Small : List ℕ → (most : ℕ) → Option (ℕ × Bor (List ℕ)) → Type 0
Small l most (Some (v, rest)) = (v ≤ most) × (length rest.now ≤ length l)
Small l most None = Unit {0}

-- r is what was to be read of the line l
pub record NumberRead (l : List ℕ) (most : ℕ) (o : Option Numbered) (r : Option (ℕ × Bor (List ℕ))) : Type 0 where
  pub number : numbered r ≡ o
  pub small : Small l most r

-- whether all bytes of a line are hexadecimal digits
unfoldable pub all_digits : List ℕ → Bool
all_digits [] = true
all_digits (b ∷ l) = ltb (value_of b) 16 && all_digits l

-- bytes that were read to the front of p
abbrev pub bytes_of : List ℕ → Option ℕ → Option (List ℕ)
bytes_of p (Some n) = Some (take n p)
bytes_of p None = None

abbrev pub Fits : List ℕ → Option ℕ → Type 0
Fits p (Some n) = n ≤ length p
Fits p None = Unit {0}

-- r is what was to be read
pub record BytesRead (p : List ℕ) (o : Option (List ℕ)) (r : Option ℕ) : Type 0 where
  pub bytes : bytes_of p r ≡ o
  pub fits : Fits p r

-- what a first line said
abbrev pub values_of : Option First → Option Values
values_of (Some f) = Some (record { scheme = f.scheme; size = f.size; width = f.width })
values_of None = None

-- what a packet line said, its packet at the front of p
abbrev pub call_of : List ℕ → Option Spoken → Option Call
call_of p (Some (Source flow n)) = Some (source-call flow (take n p))
call_of p (Some (Repair n)) = Some (repair-call (take n p))
call_of p None = None

abbrev pub Within : List ℕ → Option Spoken → Type 0
Within p (Some (Source flow n)) = n ≤ length p
Within p (Some (Repair n)) = n ≤ length p
Within p None = Unit {0}

-- r is what was to be read
pub record CallRead (p : List ℕ) (o : Option Call) (r : Option Spoken) : Type 0 where
  pub call : call_of p r ≡ o
  pub within : Within p r
