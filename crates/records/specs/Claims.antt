-- What is claimed of what is printed (proofs/Claims), in the words of document 02, No. 4, and of the receiver's history.
use Rattle.std.specs.Prelude.{◌≡◌, ◌≤◌, ◌+◌, ◌<◌, ◌∷◌, ◌++◌, ◌≢◌, ◌↔◌}
use Rattle.words.specs.Words.{ℕ, List, length, [], Some, true, None, Option, take, cond, eqb}
use Rattle.wire.specs.declared.Setting.{Setting}
use Rattle.wire.specs.Settings.{scheme_number, Valid}
use Rattle.wire.specs.Answers.{Said, value, refusal}
use Rattle.wire.specs.Flows.{announced, all_flows}
use Rattle.history.specs.History.{Call, memory_size, working_size, Log, fresh, read_after, logged, Judged}
use Rattle.printing.specs.Printed.{last_line}
use Rattle.lines.specs.Lines.{lines_of}
use Rattle.lines.specs.Forms.{Values, first_line, Says}
use Rattle.lines.specs.Reading.{call_in}
use Rattle.records.specs.Records.{Record, room, most_lines, accepted_in, refused_in, known_in, record_lines}
use Rattle.records.specs.Replay.{setting_named, printed}

-- the values that name a setting
abbrev pub values_of : Setting → Values
values_of s = record { scheme = scheme_number s.scheme; size = s.size; width = s.width }

-- a first line opens a receiver: it is of the form, with values that opening takes, and neither memory would pass 65,536 bytes
pub record Opens (l : List ℕ) (s : Setting) : Type 0 where
  pub text : l ≡ first_line (values_of s)
  pub valid : Valid s
  pub memory : memory_size s ≤ room
  pub working : working_size s ≤ room

-- the answer that a record tells
abbrev pub said_by : Record → Said
said_by r = cond (eqb r.answer 0) (value r.known) (refusal r.answer)

module _ (s : Setting) where
  -- what the accepted packets are after a line with a record: a line that is not of the form says nothing to the receiver
  abbrev pub logged_by : Log → Option Call → Record → Log
  logged_by log None r = log
  logged_by log (Some c) r = logged s log (read_after s all_flows log room c) (said_by r)

  -- the record of a line, after the packets that were accepted before it, where all flows are announced
  pub record Recorded (log : Log) (l : List ℕ) (r : Record) : Type 0 where
    -- a line of the form is answered as the history asks; a refused packet has made nothing known
    pub answered : (c : Call) → Says l c → Judged s log (read_after s all_flows log room c) (said_by r)
    pub nothing : r.answer ≢ 0 → r.known ≡ 0
    -- any other line is answered 15
    pub other : ((c : Call) → ¬ Says l c) → r.answer ≡ 15

  -- the records of packet lines, one for each, in order (`call_in l` is what the line says: `ReadExactly` of crate `lines`)
  abbrev pub Records : Log → List (List ℕ) → List Record → Type 0
  Records log [] [] = Unit {0}
  Records log [] (r ∷ rs) = ⊥
  Records log (l ∷ ls) [] = ⊥
  Records log (l ∷ ls) (r ∷ rs) = Recorded log l r × Records (logged_by log (call_in l) r) ls rs

-- what is printed where the first line opens a receiver: the records of the packet lines after it, at most 1,000,000 of them, and their sums
pub record Printing (s : Setting) (packets : List (List ℕ)) (output : List ℕ) : Type 0 where
  pub records : List Record
  pub lines : output ≡ record_lines 0 records ++ last_line (length records) (accepted_in records) (refused_in records) (known_in records)
  pub each : Records s fresh (take most_lines packets) records
  pub all : accepted_in records + refused_in records ≡ length records

pub record Prints : Type 0 where
  -- the setting that is read off a first line is the one that it opens
  pub settings : (l : List ℕ) (s : Setting) → (setting_named l ≡ Some s) ↔ Opens l s
  pub good : (input l : List ℕ) (packets : List (List ℕ)) (s : Setting) → lines_of input ≡ l ∷ packets → Opens l s → Printing s packets (printed input)
  -- a bad first line, or none: only the last line, with zeros
  pub bad : (input l : List ℕ) (packets : List (List ℕ)) → lines_of input ≡ l ∷ packets → ((s : Setting) → ¬ Opens l s) → printed input ≡ last_line 0 0 0 0
  pub missing : (input : List ℕ) → lines_of input ≡ [] → printed input ≡ last_line 0 0 0 0
  -- every flow is announced
  pub flows : (F : ℕ) → F < 256 → announced all_flows F ≡ true
  -- nothing but these records can be printed
  pub once : (s : Setting) (ls : List (List ℕ)) (rs rs' : List Record) → Records s fresh ls rs → Records s fresh ls rs' → rs ≡ rs'
