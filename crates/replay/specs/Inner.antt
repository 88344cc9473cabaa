-- Contracts of inner functions.
use Rattle.std.specs.Prelude.{◌≡◌, ◌≤◌, ◌+◌, ◌<◌, ◌∷◌, ◌++◌}
use Rattle.words.specs.Words.{ℕ, List, length, [], drop, take}
use Rattle.printing.specs.Printed.{last_line}
use Rattle.lines.specs.Lines.{lines_from}
use Rattle.records.specs.declared.Stage.{Stage}
use Rattle.records.specs.declared.Stage.TheVariants.{Working}
use Rattle.records.specs.declared.Progress.{Progress}
use Rattle.records.specs.declared.Pass.{Pass}
use Rattle.replay.specs.declared.Ended.{Ended}
use Rattle.records.specs.Records.{Record, most_lines}
use Rattle.records.specs.Standing.{Standing, opening, closed, working, after_line, printed_line, after, printed_by, last_of, Counts, Stands, Kept}
use Rattle.records.specs.Taking.{taken_of, taken_from}
use Rattle.records.specs.Promises.{Held, GoesFrom}

-- room for a record's line: its numbers have at most 20 digits each
abbrev pub record_room : ℕ
record_room = 78

-- a record was counted
pub record Counted (p : Progress) (r : Record) (p' : Progress) : Type 0 where
  pub stage : p'.stage ≡ Working
  pub have : p'.have ≡ 0
  pub counts : (rs : List Record) → Counts p rs → length rs < most_lines → r.known ≤ 65535 → Counts p' (rs ++ (r ∷ []))

-- a progress in a stage, with so many bytes kept
abbrev pub moved_to : Progress → Stage → (have : ℕ) → Progress
moved_to p stage have =
    record { stage = stage; have = have; lines = p.lines; accepted = p.accepted; refused = p.refused; known = p.known }

-- the memories that are lent
pub record Lent (line m v packet : List ℕ) : Type 0 where
  pub characters : 8192 ≤ length line
  pub memory : length m ≡ 65536
  pub working : length v ≡ 65536
  pub bytes : 4096 ≤ length packet

-- what is written ends at `next`, where it ended at `at` before, and output past that is as it was
pub record Grown (at next : ℕ) (out out' : List ℕ) : Type 0 where
  pub grows : at ≤ next
  pub within : next ≤ length out'
  pub past : drop next out' ≡ drop next out

-- after the line l of a capture that stood at w: what was written before is followed by what is printed of the line
pub record Passed (w : Standing) (l before written : List ℕ) (p' : Progress) (m' : List ℕ) : Type 0 where
  pub stands : Stands p' m' (after_line w l)
  pub wrote : written ≡ before ++ printed_line w l

-- the first line has ended
pub record FirstEnded (p : Progress) (line m m' : List ℕ) (r : Progress) : Type 0 where
  pub have : r.have ≡ 0
  pub goes : (l : List ℕ) → Counts p [] → Kept p.have line l → Stands r m' (after_line opening l)

-- a line has ended, of a capture that stood at one of these
pub record EndedAt (At : Standing → Type 0) (p : Progress) (line m m' out out' : List ℕ) (at : ℕ) (r : Ended) : Type 0 where
  pub room : r.at ≤ at + record_room
  pub rest : Grown at r.at out out'
  pub have : r.progress.have ≡ 0
  pub goes : (w : Standing) (l : List ℕ) → At w → Stands p m w → Kept p.have line l → Passed w l (take at out) (take r.at out') r.progress m'

abbrev pub AtPackets : Standing → Type 0
AtPackets opening = ⊥
AtPackets closed = ⊥
AtPackets (working s t rs) = Unit {0}

abbrev pub PacketEnded : (p : Progress) (line m m' out out' : List ℕ) (at : ℕ) (r : Ended) → Type 0
PacketEnded = EndedAt AtPackets

abbrev pub LineEnded : (p : Progress) (line m m' out out' : List ℕ) (at : ℕ) (r : Ended) → Type 0
LineEnded = EndedAt (λ w. Unit {0})

-- a line was taken, as far as the piece of the input has it
pub record LineFed (p : Progress) (line line' m m' input out out' : List ℕ) (at : ℕ) (r : Pass) : Type 0 where
  pub taken : r.taken ≤ length input
  pub moves : 0 < length input → 0 < r.taken
  pub room : r.written ≤ at + record_room
  pub rest : Grown at r.written out out'
  pub goes : (w : Standing) (q : List ℕ) → Held p line m w q
      → GoesFrom w q (take at out) (take r.taken input) (take r.written out') r.progress line' m'
  pub takes : (w : Standing) (q : List ℕ) (h : Held p line m w q) → taken_of w q at input
      ≡ r.taken + taken_from (after w (goes w q h).lines) (goes w q h).unended r.written (drop r.taken input)

-- the input has ended
pub record InputEnded (p : Progress) (line m out out' : List ℕ) (r : Ended) : Type 0 where
  pub room : r.at ≤ record_room
  pub rest : Grown 0 r.at out out'
  pub prints : (w : Standing) (q : List ℕ) → Held p line m w q
      → printed_by w (lines_from q []) ++ last_of (after w (lines_from q []))
      ≡ take r.at out' ++ last_line r.progress.lines r.progress.accepted r.progress.refused r.progress.known
