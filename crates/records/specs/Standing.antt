-- Where a capture stands after lines of it, and what is printed on the way. The claims need only that it is kept: a reader need not believe it.
use Rattle.std.specs.Prelude.{◌≡◌, ◌≤◌, ◌+◌, ◌∷◌, ◌*◌, ◌++◌}
use Rattle.words.specs.Words.{ℕ, List, length, [], Some, None, Option, take, cond, ltb, min}
use Rattle.wire.specs.declared.Setting.{Setting}
use Rattle.wire.specs.Flows.{all_flows}
use Rattle.history.specs.Model.{State, opened}
use Rattle.holding.specs.Layout.{HoldsWith}
use Rattle.printing.specs.Printed.{record_line}
use Rattle.lines.specs.Forms.{longest}
use Rattle.lines.specs.Reading.{call_in}
use Rattle.records.specs.declared.Stage.TheVariants.{Opening, Working, Closed}
use Rattle.records.specs.declared.Progress.{Progress}
use Rattle.records.specs.Records.{Record, most_lines, accepted_in, refused_in, known_in, summary}
use Rattle.records.specs.Replay.{record_at, state_at, setting_named}

-- the first line is to come; it was bad; or the receiver's state, and the records so far
pub data Standing : Type 0 where
  opening : Standing
  closed : Standing
  working : (s : Setting) → State s → List Record → Standing

-- after a line: after the first, as it names a setting or not; after a packet line there is a record more, as long as they are not the most
abbrev pub opened_with : Option Setting → Standing
opened_with None = closed
opened_with (Some s) = working s (opened s) []

unfoldable pub after_line : Standing → List ℕ → Standing
after_line opening l = opened_with (setting_named l)
after_line closed l = closed
after_line (working s t rs) l =
    cond (ltb (length rs) most_lines) (working s (state_at s t (call_in l)) (rs ++ (record_at s t (call_in l) ∷ []))) (working s t rs)

-- what is printed of that line
unfoldable pub printed_line : Standing → List ℕ → List ℕ
printed_line opening l = []
printed_line closed l = []
printed_line (working s t rs) l =
    let r = record_at s t (call_in l) in
    cond (ltb (length rs) most_lines) (record_line (length rs + 1) r.answer r.known) []

-- after lines, and what is printed of them
abbrev pub after : Standing → List (List ℕ) → Standing
after w [] = w
after w (l ∷ ls) = after (after_line w l) ls

abbrev pub printed_by : Standing → List (List ℕ) → List ℕ
printed_by w [] = []
printed_by w (l ∷ ls) = printed_line w l ++ printed_by (after_line w l) ls

-- the last line, if no line is to come
unfoldable pub last_of : Standing → List ℕ
last_of opening = summary []
last_of closed = summary []
last_of (working s t rs) = summary rs

-- ---- In memory

-- the numbers of a progress are the sums of the records
pub record Counts (p : Progress) (rs : List Record) : Type 0 where
  pub lines : p.lines ≡ length rs
  pub accepts : p.accepted ≡ accepted_in rs
  pub refuses : p.refused ≡ refused_in rs
  pub knows : p.known ≡ known_in rs
  pub few : length rs ≤ most_lines
  pub small : known_in rs ≤ 65535 * length rs

-- a progress with the receiver's memory m stands there
pub record Works (p : Progress) (m : List ℕ) (s : Setting) (t : State s) (rs : List Record) : Type 0 where
  pub stage : p.stage ≡ Working
  pub holds : HoldsWith m s all_flows t
  pub counts : Counts p rs

abbrev pub Stands : Progress → (m : List ℕ) → Standing → Type 0
Stands p m opening = (p.stage ≡ Opening) × Counts p []
Stands p m closed = (p.stage ≡ Closed) × Counts p []
Stands p m (working s t rs) = Works p m s t rs

-- of the bytes q of a line that has not ended, `have` are kept at the front of `line`; of too many, none
pub record Kept (have : ℕ) (line q : List ℕ) : Type 0 where
  pub count : have ≡ min (length q) (longest + 1)
  pub bytes : length q ≤ longest → take have line ≡ q
