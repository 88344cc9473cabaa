-- `answering::open_by` meets its contract.
use Rattle.std.specs.Prelude.{◌≡◌, ◌≤◌}
use Rattle.words.specs.Words.{arith, ℕ, List, length, ◌∙◌, sym, ap, Some, None, cond, leb, le-leb, take}
use Rattle.wire.specs.Settings.{setting_of}
use Rattle.wire.proofs.Settings.{setting-names}
use Rattle.wire.specs.Answers.{said}
use Rattle.receiver.specs.Promises.{opening}
use Rattle.lines.specs.Forms.{longest}
use Rattle.lines.specs.Reading.{on, values_in}
use Rattle.records.specs.Records.{room}
use Rattle.records.specs.Replay.{fitting, setting_named}
use Rattle.records.specs.Standing.{Kept}
use Rattle.answering.proofs.Keeping.{kept_line, kept_long, kept_short}
use Rattle.answering.proofs.Openings.{opens_none, long_opens_none, no_values, with_values, no_setting, large_working, large_memory}
use Rattle.answering.proofs.Openings.{both_fit, not-fitting, open_answered}
use Rattle.answering.proofs.open_by.Goals as goal

-- the line has values
values : {have : ℕ} {line : List ℕ} {scheme size width : ℕ} → Some (record { scheme = scheme; size = size; width = width }) ≡ values_in (take have line)
    → have ≤ longest → (l : List ℕ) → Kept have line l
    → setting_named l ≡ cond (leb (length l) longest) (on (setting_of scheme size width) fitting) None
values e h l k = with_values l _ _ _ (e ∙ ap values_in (kept_line _ _ l k h))

pub returns-then-have-gt-LONGEST : goal.returns-then-have-gt-LONGEST
returns-then-have-gt-LONGEST c = opens_none _ (λ l k. long_opens_none l (kept_long _ _ l k c.if-have-gt-LONGEST.true))

pub returns-in_default : goal.returns-in_default
returns-in_default c =
    opens_none _ (λ l k. no_values l (c.in_default.ensures ∙ ap values_in (kept_line _ _ l k c.if-have-gt-LONGEST.false)))

pub returns-in_default-setting_of : goal.returns-in_default-setting_of
returns-in_default-setting_of c =
    opens_none _
    (λ l k. no_setting l _ _ _ (values c.in-Some.ensures c.if-have-gt-LONGEST.false l k) c.in_default-setting_of.ensures)

pub working_size-requires : goal.working_size-requires
working_size-requires c = (setting-names _ _ _ _ (sym c.in-Some-setting_of.ensures)).valid

pub returns-then-working_size-gt-ROOM : goal.returns-then-working_size-gt-ROOM
returns-then-working_size-gt-ROOM c =
    let setting = c.in-Some-setting_of.setting in
    opens_none _
    (λ l k. not-fitting l _ _ _ setting (values c.in-Some.ensures c.if-have-gt-LONGEST.false l k) (sym c.in-Some-setting_of.ensures)
    (large_working setting (omega (arith, c.working_size.ensures))))

pub returns : goal.returns
returns c =
    let setting = c.in-Some-setting_of.setting in
    let named = sym c.in-Some-setting_of.ensures in
    let told : said c.«open».result ≡ opening (Some setting) room =
    c.«open».ensures.answer ∙ ap (λ o. opening o (length c.args.mem.now)) named ∙ ap (opening (Some setting)) c.requires.1 in
    rw c.is_ok.ensures.value
    (open_answered _ setting c.«open».result told
    (λ h l k. not-fitting l _ _ _ setting (values c.in-Some.ensures c.if-have-gt-LONGEST.false l k) named (large_memory setting h))
    (λ h l k. values c.in-Some.ensures c.if-have-gt-LONGEST.false l k ∙ rw (
      le-leb (length l) longest (kept_short _ _ l k c.if-have-gt-LONGEST.false),
      named,
      both_fit setting h (omega (arith, c.working_size.ensures, c.if-working_size-gt-ROOM.false)),
    ))
    (λ z. c.«open».ensures.holds setting named z))
