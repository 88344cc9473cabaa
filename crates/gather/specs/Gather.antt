-- What `lay` and `admit` do to an equation of a packet: it is laid in a row of working memory, reduced there and kept, unless it is implied
-- or contradicts.
use Rattle.std.specs.Prelude.{◌≡◌, ◌≤◌, ◌+◌, ◌<◌, ◌-◌, ◌%◌, ◌∷◌, ◌++◌, ◌≢◌}
use Rattle.words.specs.Words.{ℕ, List, length, [], None, get_or, drop, take}
use Rattle.decoder.specs.Bytes.{Coded}
use Rattle.decoder.specs.Model.{Row, State, Rref}
use Rattle.decoder.specs.Receiver.{advance_by, insert_all}
use Rattle.table.specs.Window.{row_offset, row, equation, Window}
use Rattle.table.specs.Packet.{Works, Gathered}
use Rattle.gather.specs.declared.Verdict.{Verdict}
use Rattle.gather.specs.declared.Verdict.TheVariants.{Kept, Implied, Contradiction}

-- Only the bytes from `a` on and before `z` may have changed.
pub record Only (a z : ℕ) (m m' : List ℕ) : Type 0 where
  pub size : length m' ≡ length m
  pub before : take a m' ≡ take a m
  pub past : drop z m' ≡ drop z m

-- The coefficients are zero outside the `n` columns from `first` on, by remainder.
abbrev pub Spans : (w first n : ℕ) → List ℕ → Type 0
Spans w first n l = (j : ℕ) → j < w → ((i : ℕ) → i < n → (first + i) % w ≢ j) → get_or l j 0 ≡ 0

-- The coefficients `cs` stand in the columns from `first` on, by remainder, and the others are zero.
pub record Laid (w first : ℕ) (cs l : List ℕ) : Type 0 where
  pub on : (i : ℕ) → i < length cs → get_or l ((first + i) % w) 0 ≡ get_or cs i 0
  pub off : Spans w first (length cs) l

-- The coefficients have been laid in the row `k` of working memory.
pub record LaidIn (w E k first : ℕ) (cs work work' : List ℕ) : Type 0 where
  pub only : Only (row_offset w E k) (row_offset w E k + w) work work'
  pub laid : Laid w first cs (row w E k work')

-- How many rows are kept now.
abbrev pub count_kept : ℕ → Verdict → ℕ
count_kept kept Kept = kept + 1
count_kept kept Implied = kept
count_kept kept Contradiction = kept

-- The equations `es` agree with the system `S`, and working memory holds what it makes of them; or they contradict it.
abbrev pub Agrees : (w E b : ℕ) (S : State (Coded E) w) (work : List ℕ) (kept : ℕ) (es : List (Row (Coded E) w)) → Verdict → Type 0
Agrees w E b S work kept es Kept = Gathered w E b S work (kept + 1) es
Agrees w E b S work kept es Implied = Gathered w E b S work kept es
Agrees w E b S work kept es Contradiction = insert_all es S ≡ None

-- The equation in the row `kept` has been admitted or refused, for a window that is to move on to the one whose base has the row `base`, so that
-- `stay` positions stay. Its coefficients stand in the `n` columns from `first` on: at positions of that window, from the `d`th on.
pub record Admitted (w E oldest stay kept first n : ℕ) (verdict : Verdict) (m work work' : List ℕ) : Type 0 where
  pub only : Only (row_offset w E kept) (row_offset w E kept + (w + E + 1)) work work'
  pub works : Works w E (count_kept kept verdict) work'
  pub outcome : (b rise d : ℕ) (S : State (Coded E) w) (es : List (Row (Coded E) w)) → (b + rise) % w ≡ oldest → stay ≡ w - rise
      → (b + rise + d) % w ≡ first → d < w → d + n ≤ w → Window w E m b S → Rref S → Spans w first n (row w E kept work)
      → Gathered w E (b + rise) (advance_by rise S) work kept es
      → Agrees w E (b + rise) (advance_by rise S) work' kept (es ++ (equation w E (b + rise) (row w E kept work) ∷ [])) verdict
