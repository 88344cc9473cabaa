-- Contracts of inner functions that read and change marks: a reader need not believe these.
use Rattle.std.specs.Prelude.{◌≡◌, ◌≤◌, ◌+◌, ◌<◌, ◌%◌, ◌≢◌, ◌⊎◌}
use Rattle.std.specs.Int.{from_bool}
use Rattle.words.specs.Words.{ℕ, List, length, Some, suc, true, zero, None, get_or, false, Bool, Option}
use Rattle.decoder.specs.Bytes.{Coded}
use Rattle.decoder.specs.Model.{State, known}
use Rattle.table.specs.Window.{Window}
use Rattle.starts.specs.Adu.{View}
use Rattle.starts.specs.Starts.{Starts, owning, moved, onward, pass, seen}
use Rattle.marks.specs.Marks.{mark_at, marked, Marks, OnlyMarks, noted_in, OnlyStarts}
use Rattle.starts.specs.Settled.{Open, Settled, Old, Reaches}
use Rattle.marks.specs.Promises.{Passed}

-- The byte of the i-th position's mark.
abbrev pub mark_byte : (w E oldest : ℕ) → List ℕ → ℕ → ℕ
mark_byte w E oldest m i = get_or m (mark_at w E oldest i) 0

-- The byte of the i-th position's mark is `v`, and no other has changed.
pub record Written (w E oldest i v : ℕ) (m m' : List ℕ) : Type 0 where
  pub size : length m' ≡ length m
  pub here : mark_byte w E oldest m' i ≡ v
  pub rest : (k : ℕ) → k ≢ mark_at w E oldest i → get_or m' k 0 ≡ get_or m k 0

-- The bytes of the first n positions' marks are zero, and the others are as they were.
pub record Dropped (w E oldest n : ℕ) (m m' : List ℕ) : Type 0 where
  pub only : OnlyMarks w E m m'
  pub gone : (i : ℕ) → i < n → mark_byte w E oldest m' i ≡ 0
  pub rest : (i : ℕ) → n ≤ i → i ≤ w → mark_byte w E oldest m' i ≡ mark_byte w E oldest m i

-- The position that has its turn next in a walk: the one marked, or else the width, where no position is.
abbrev pub onto : ℕ → Option ℕ → ℕ
onto w None = w
onto w (Some k) = k

-- The turn of the i-th position in the pass has been made: r is the position that it has marked, or the width.
pub record Stepped (w E oldest i r : ℕ) (m m' : List ℕ) : Type 0 where
  pub only : OnlyStarts w E m m'
  pub later : (i < r) × (r ≤ w)
  pub marks : (b : ℕ) (S : State (Coded E) w) (M : Starts) → b % w ≡ oldest → Window w E m b S → Marks w E oldest m M
      → Marks w E oldest m' (onward E (M i) (seen E w S i) i M)
  pub opens : (b : ℕ) (S : State (Coded E) w) (M : Starts) → b % w ≡ oldest → Window w E m b S → Marks w E oldest m M
      → (k : ℕ) → Open E w (seen E w S) (noted_in m') (onward E (M i) (seen E w S i) i M) k
      → (k ≡ r) ⊎ (Open E w (seen E w S) (noted_in m) M k × (k ≢ i))

-- Byte 11 of the header has become v.
pub record Noted (v : ℕ) (m m' : List ℕ) : Type 0 where
  pub size : length m' ≡ length m
  pub here : noted_in m' ≡ v
  pub rest : (k : ℕ) → k ≢ 11 → get_or m' k 0 ≡ get_or m k 0

-- Marks have been followed from positions on that have P: no mark is lost, a new one is reached from the marks before, and what is open was so
-- before and has not P.
pub record Followed (w E oldest : ℕ) (P : ℕ → Type 0) (m m' : List ℕ) : Type 0 where
  pub only : OnlyStarts w E m m'
  pub kept : (b : ℕ) (S : State (Coded E) w) → b % w ≡ oldest → Window w E m b S
      → (i : ℕ) → i ≤ w → marked w E oldest m i ≡ true → marked w E oldest m' i ≡ true
  pub reached : (b : ℕ) (S : State (Coded E) w) → b % w ≡ oldest → Window w E m b S
      → (i : ℕ) → i ≤ w → marked w E oldest m' i ≡ true → Reaches E w (seen E w S) (marked w E oldest m) i
  pub opens : (b : ℕ) (S : State (Coded E) w) → b % w ≡ oldest → Window w E m b S
      → (k : ℕ) → Open E w (seen E w S) (noted_in m') (marked w E oldest m') k
      → Open E w (seen E w S) (noted_in m) (marked w E oldest m) k × (P k → ⊥)

-- A packet has marked what it marks of its own.
pub record Owned (w E oldest first n : ℕ) (m m' : List ℕ) : Type 0 where
  pub only : OnlyMarks w E m m'
  pub marks : (M : Starts) → Marks w E oldest m M → Marks w E oldest m' (owning first n M)

-- The pass may be left out: none but the packet's own positions have become known, and no ADU that ended past the window can end in it.
abbrev pub MayWalk : (rise : ℕ) (others : Bool) (m : List ℕ) → Type 0
MayWalk rise others m = (others ≡ false) × ((rise ≡ 0) ⊎ (noted_in m ≡ 0))

pub record Decided (rise : ℕ) (others : Bool) (m : List ℕ) (r : Bool) : Type 0 where
  pub walks : r ≡ false → MayWalk rise others m

-- What the marks M reach has been marked after a packet with n symbols of its own from `first` on. Either the pass has been made, or positions
-- have been followed.
pub record Extended (w E oldest rise first n : ℕ) (others : Bool) (m m' : List ℕ) : Type 0 where
  pub how : Passed w E oldest m m'
      ⊎ (MayWalk rise others m × Followed w E oldest (λ k. (0 < n) × (first ≤ k) × (k < first + (n + 1))) m m')

-- A packet was accepted, with n symbols of its own from `first` on: the base has risen from the row `oldest` on. Where marks were settled, they
-- are so again, if `others` tells whether positions other than the packet's own have become known.
pub record Updated (w E oldest rise first n : ℕ) (others : Bool) (m m' : List ℕ) : Type 0 where
  pub only : OnlyStarts w E m m'
  pub marks : (b : ℕ) (before : View) (S : State (Coded E) w) (M : Starts) → b % w ≡ (oldest + rise) % w → Window w E m b S → Marks w E oldest m M
      → Settled E w before (noted_in m) M → (others ≡ false → Old w rise first n before (seen E w S))
      → let N = pass E (seen E w S) w (owning first n (moved w rise M)) in
      Marks w E ((oldest + rise) % w) m' N × Settled E w (seen E w S) (noted_in m') N

-- How many of the n positions from `first` on have a value.
abbrev pub one_if : {A : Type 0} → Option A → ℕ
one_if None = 0
one_if (Some v) = 1

unfoldable pub tally : {A : Type 0} → (ℕ → Option A) → (first n : ℕ) → ℕ
tally f first zero = 0
tally f first (suc n) = tally f first n + one_if (f (first + n))

-- Whether the i-th position is known; and how many of n are.
abbrev pub OneKnown : (w E oldest i : ℕ) → Bool → List ℕ → Type 0
OneKnown w E oldest i r m = (b : ℕ) (S : State (Coded E) w) → b % w ≡ oldest → Window w E m b S → from_bool r ≡ one_if (known S i)

pub record Tallied (w E oldest first n r : ℕ) (m : List ℕ) : Type 0 where
  pub most : r ≤ n
  pub told : (b : ℕ) (S : State (Coded E) w) → b % w ≡ oldest → Window w E m b S → r ≡ tally (known S) first n
