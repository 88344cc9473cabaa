-- The marks of starts as the receiver computes them: by a position's distance from the base, up to the width.
-- That these are the history's is proved (crate `claims`): a reader of the claims need not believe it.
use Rattle.std.specs.Prelude.{◌+◌, ◌&&◌, ◌||◌}
use Rattle.words.specs.Words.{ℕ, List, Some, suc, true, zero, None, false, Bool, Option, cond, ltb, leb, eqb}
use Rattle.decoder.specs.Tuples.{Tuple, Byte, bytes-of}
use Rattle.decoder.specs.Bytes.{Coded}
use Rattle.decoder.specs.Model.{State, known}
use Rattle.starts.specs.Adu.{needs, View}

-- Which positions are marked.
abbrev pub Starts : Type 0
Starts = ℕ → Bool

-- None.
abbrev pub nowhere : Starts
nowhere i = false

-- One more.
abbrev pub also : ℕ → Starts → Starts
also j M i = eqb i j || M i

-- A packet with n symbols of its own from the position `first` on marks that and the one after its last.
abbrev pub owning : (first n : ℕ) → Starts → Starts
owning first n M = cond (ltb 0 n) (also first (also (first + n) M)) M

-- The base has risen: marks below it, and marks past the old base + width, are dropped.
abbrev pub moved : (width rise : ℕ) → Starts → Starts
moved width rise M i = leb (rise + i) width && M (rise + i)

-- A marked known position whose L needs n symbols marks the position n later.
abbrev pub onward : (E : ℕ) → Bool → Option (List ℕ) → ℕ → Starts → Starts
onward E true (Some v) i M = also (i + needs E v) M
onward E true None i M = M
onward E false o i M = M

-- Rising through the first n positions of the window.
unfoldable pub pass : (E : ℕ) → View → (n : ℕ) → Starts → Starts
pass E see zero M = M
pass E see (suc n) M = onward E (pass E see n M n) (see n) n (pass E see n M)

-- What a system knows of its window.
abbrev pub shown : (E : ℕ) → Option (Tuple Byte E) → Option (List ℕ)
shown E None = None
shown E (Some v) = Some (bytes-of E v)

abbrev pub seen : (E w : ℕ) → State (Coded E) w → View
seen E w S i = shown E (known S i)
