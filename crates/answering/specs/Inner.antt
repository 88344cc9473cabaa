-- Contracts of inner functions.
use Rattle.std.specs.Prelude.{◌≡◌, ◌≤◌, ◌++◌, Result, Ok, Err}
use Rattle.words.specs.Words.{ℕ, List, Some, true, None, false, Bool, Option}
use Rattle.wire.specs.declared.Setting.{Setting}
use Rattle.wire.specs.Numbers.{number_of}
use Rattle.wire.specs.Flows.{all_flows}
use Rattle.history.specs.Model.{State, opened}
use Rattle.holding.specs.Layout.{HoldsWith}
use Rattle.lines.specs.Reading.{call_in}
use Rattle.records.specs.Records.{Record}
use Rattle.records.specs.Replay.{record_at, state_at, setting_named}
use Rattle.records.specs.Standing.{Kept}
use Rattle.answering.specs.declared.Fault.{Fault}
use Rattle.answering.specs.declared.Fault.TheVariants.{Refused, Malformed}

-- the number of a fault
abbrev pub fault_number : Fault → ℕ
fault_number (Refused r) = number_of r
fault_number Malformed = 15

-- the record that an answer to a packet line makes
abbrev pub told : Result ℕ Fault → Record
told (Ok n) = record { answer = 0; known = n }
told (Err f) = record { answer = fault_number f; known = 0 }

-- more bytes of a line are kept
abbrev pub KeptMore : (have have' : ℕ) (line line' bytes : List ℕ) → Type 0
KeptMore have have' line line' bytes = (q : List ℕ) → Kept have line q → Kept have' line' (q ++ bytes)

-- the receiver that a first line names was opened in m', with all flows announced, or it names none
abbrev pub OpensOrNot : Option Setting → (m' : List ℕ) → Bool → Type 0
OpensOrNot None m' r = r ≡ false
OpensOrNot (Some s) m' r = (r ≡ true) × HoldsWith m' s all_flows (opened s)

abbrev pub OpenedBy : (have : ℕ) (line m' : List ℕ) → Bool → Type 0
OpenedBy have line m' r = (l : List ℕ) → Kept have line l → OpensOrNot (setting_named l) m' r

-- a packet line was answered
pub record Answered (have : ℕ) (line m m' : List ℕ) (r : Record) : Type 0 where
  pub small : r.known ≤ 65535
  -- a line that is not of the form does not touch the receiver
  pub other : (l : List ℕ) → Kept have line l → call_in l ≡ None → m' ≡ m
  pub answer : (l : List ℕ) (s : Setting) (t : State s) → Kept have line l → HoldsWith m s all_flows t
      → (r ≡ record_at s t (call_in l)) × HoldsWith m' s all_flows (state_at s t (call_in l))
