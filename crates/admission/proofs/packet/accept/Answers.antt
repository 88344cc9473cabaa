-- `admission::packet::accept` meets its contract.
use Rattle.std.specs.Prelude.{◌+◌}
use Rattle.words.specs.Words.{arith, ◌∙◌, subst, eqb-true, not-false, eqb, not}
use Rattle.table.specs.declared.Shape.{Shape}
use Rattle.marks.specs.MarkSteps.{Tallied}
use Rattle.history.proofs.Sides.{limits}
use Rattle.admission.specs.Steps.{SamePast, SameFlows, Marked}
use Rattle.admission.proofs.Marking.{count_asks, count_again, update_asks, followed}
use Rattle.admission.proofs.Hearing.{hear_asks, accepted}
use Rattle.admission.proofs.packet.accept.Goals as goal
use Rattle.admission.proofs.packet.accept.Goals.{After-update}

pub overflow_add-location : goal.overflow_add-location
overflow_add-location c = omega (arith, limits)

pub known_among-had-requires : goal.known_among-had-requires
known_among-had-requires c =
    let a = c.args in
    rw c.shape.ensures (count_asks a.header a.location a.own _ c.requires.0 c.requires.4 c.requires.3)

pub known_among-has-requires : goal.known_among-has-requires
known_among-has-requires c =
    let a = c.args in
    count_again a.header a.location a.own _ _ c.requires.0 c.requires.4 c.finish-known.ensures.contained

pub update-requires : goal.update-requires
update-requires c =
    update_asks c.args.header c.args.location c.args.own _ _ c.requires.0 c.requires.4 c.finish-known.ensures.contained

-- The marks have followed, and what stands past the rows, and the flows, are as they were.
follows : (c : After-update)
    → let a = c.args in
    Marked a.header a.location a.kept a.own c.finish-known.result a.work.now a.mem.now c.update.new.mem
    × SamePast a.header.setting.width a.header.setting.size a.mem.now c.update.new.mem × SameFlows a.mem.now c.update.new.mem
follows c =
    let a = c.args in
    let known = c.finish-known.result in
    let more = c.saturating_sub.result in
    followed a.header a.location a.kept a.own known c.known_among-had.result c.known_among-has.result (not (eqb known more))
    a.work.now a.mem.now c.finish-known.new.mem c.update.new.mem c.requires.0 c.requires.4 c.finish-known.ensures
    (subst
    (λ (x : Shape). Tallied x.width x.size x.oldest (a.location.rise + a.location.offset) a.own c.known_among-had.result a.mem.now)
    c.shape.ensures c.known_among-had.ensures) c.known_among-has.ensures
    (λ e. eqb-true known more (not-false (eqb known more) e) ∙ c.saturating_sub.ensures) c.update.ensures

pub update-requires-2 : goal.update-requires-2
update-requires-2 c =
    let a = c.args in
    hear_asks a.header a.location a.own _ _ _ _ _ c.requires.0 c.requires.4
    (follows (goal.at.update-requires-2 c).After-update).0.contained (omega arith) (omega arith) (omega arith)

pub returns : goal.returns
returns c =
    let a = c.args in
    let f = follows (goal.at.returns c).After-update in
    accepted a.header a.location a.kept a.own c.finish-known.result _ _ _ a.work.now a.mem.now c.update.new.mem
    c.update-2.new.mem c.requires.0 c.requires.4 f.0 f.1 f.2 c.update-2.ensures (omega arith) (omega arith) (omega arith)
