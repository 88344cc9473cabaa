-- `answering::answer_line` meets its contract.
use Rattle.std.specs.Prelude.{◌≤◌, ◌≡◌}
use Rattle.words.specs.Words.{ℕ, List, rules, ◌∙◌, sym, ap, take, Some}
use Rattle.lines.specs.Forms.{longest}
use Rattle.lines.specs.Reading.{call_in}
use Rattle.records.specs.Standing.{Kept}
use Rattle.answering.proofs.Keeping.{kept_line, kept_long}
use Rattle.answering.proofs.Answering.{long-none, answered_other, answered_call, spoken_source, spoken_repair, spoken_nothing}
use Rattle.answering.proofs.answer_line.Goals as goal

-- the line that was read
read : {have : ℕ} {line : List ℕ} → have ≤ longest → (l : List ℕ) → Kept have line l → call_in (take have line) ≡ call_in l
read h l k = ap call_in (kept_line _ _ l k h)

pub returns-then-have-gt-LONGEST : goal.returns-then-have-gt-LONGEST
returns-then-have-gt-LONGEST c = answered_other _ _ _ (λ l k. long-none l (kept_long _ _ l k c.if-have-gt-LONGEST.true))

pub returns-in-Some-Source : goal.returns-in-Some-Source
returns-in-Some-Source c =
    answered_call _ _ _ _ _ _ _ _ _
    (λ l k. sym (read c.if-have-gt-LONGEST.false l k)
    ∙ (spoken_source _ _ _ (c.in-Some-Source.is ∙ ap Some c.in-Some-Source.field-0-is) c.read_line.ensures).0)
    (search rules) c.receive_source.ensures c.recorded.ensures

pub returns-in-Some-Repair : goal.returns-in-Some-Repair
returns-in-Some-Repair c =
    answered_call _ _ _ _ _ _ _ _ _
    (λ l k. sym (read c.if-have-gt-LONGEST.false l k)
    ∙ (spoken_repair _ _ (c.in-Some-Repair.is ∙ ap Some c.in-Some-Repair.field-0-is) c.read_line.ensures).0)
    (search rules) c.receive_repair.ensures c.recorded-in-Some-Repair.ensures

pub returns-in-None : goal.returns-in-None
returns-in-None c =
    answered_other _ _ _
    (λ l k. sym (read c.if-have-gt-LONGEST.false l k) ∙ spoken_nothing _ c.in-None.is c.read_line.ensures)
