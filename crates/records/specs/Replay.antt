-- What is printed of a capture, as a definition that computes. That it is what document 02 asks for is claimed in the history's words (Claims): a
-- reader need not believe this.
use Rattle.std.specs.Prelude.{◌∷◌, ◌++◌, ◌&&◌}
use Rattle.words.specs.Words.{ℕ, List, length, [], Some, None, Option, take, cond, leb}
use Rattle.wire.specs.declared.Setting.{Setting}
use Rattle.wire.specs.Settings.{setting_of}
use Rattle.wire.specs.Answers.{Said, value, refusal}
use Rattle.wire.specs.Flows.{all_flows}
use Rattle.history.specs.History.{Call, memory_size, working_size}
use Rattle.history.specs.Model.{State, opened, said_of, state_after, receiving}
use Rattle.lines.specs.Lines.{lines_of}
use Rattle.lines.specs.Forms.{Values, longest}
use Rattle.lines.specs.Reading.{on, values_in, call_in}
use Rattle.records.specs.Records.{Record, room, most_lines, record_lines, summary}

-- ---- Packet lines

-- the record of what a packet call said, and that of a line that is not of the form
abbrev pub record_of : Said → Record
record_of (value n) = record { answer = 0; known = n }
record_of (refusal n) = record { answer = n; known = 0 }

abbrev pub malformed : Record
malformed = record { answer = 15; known = 0 }

module _ (s : Setting) where
  -- what a line says to a receiver in a state, where all flows are announced: its record, and the state after it; a line that is not of the form says nothing
  abbrev pub record_at : State s → Option Call → Record
  record_at t None = malformed
  record_at t (Some c) = record_of (said_of (receiving s all_flows t room c))

  abbrev pub state_at : State s → Option Call → State s
  state_at t None = t
  state_at t (Some c) = state_after t (receiving s all_flows t room c)

  -- the records of packet lines
  unfoldable pub records_from : State s → List (List ℕ) → List Record
  records_from t [] = []
  records_from t (l ∷ ls) = record_at t (call_in l) ∷ records_from (state_at t (call_in l)) ls

-- ---- The first line

-- the setting that it names: none where it is not of the form or too long, opening refuses its values, or a memory would be too large
abbrev pub fitting : Setting → Option Setting
fitting s = cond (leb (memory_size s) room && leb (working_size s) room) (Some s) None

abbrev pub setting_with : Values → Option Setting
setting_with v = on (setting_of v.scheme v.size v.width) fitting

unfoldable pub setting_named : List ℕ → Option Setting
setting_named l = cond (leb (length l) longest) (on (values_in l) setting_with) None

-- ---- What is printed

-- after the first line: the records' lines and the last line; where the first line is bad, only the last line
unfoldable pub printed_with : Option Setting → (packets : List (List ℕ)) → List ℕ
printed_with None ls = summary []
printed_with (Some s) ls = let rs = records_from s (opened s) (take most_lines ls) in record_lines 0 rs ++ summary rs

unfoldable pub printed_lines : List (List ℕ) → List ℕ
printed_lines [] = summary []
printed_lines (l ∷ ls) = printed_with (setting_named l) ls

-- what is printed of an input
abbrev pub printed : List ℕ → List ℕ
printed x = printed_lines (lines_of x)
