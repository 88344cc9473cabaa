-- `admission::packet::locate` meets its contract.
use Rattle.std.specs.Prelude.{◌≡◌}
use Rattle.words.specs.Words.{arith}
use Rattle.history.specs.History.{ahead, farthest, side_of}
use Rattle.history.proofs.Sides.{limits, ahead_by}
use Rattle.holding.proofs.Standing.{side_is_ahead, side_is_behind}
use Rattle.admission.proofs.Locating.{handed_on, some_of, none_of, found_behind, found_ahead, found_location}
use Rattle.admission.proofs.packet.locate.Goals as goal
use Rattle.admission.proofs.packet.locate.Goals.{In_ok-d}

-- The first symbol lies ahead of the base.
is_ahead : (c : In_ok-d) → side_of c.args.header.esi.0 c.args.first.0 ≡ ahead c.in_ok-d.d
is_ahead c = side_is_ahead _ c.in_ok-d.d c.side_of.ensures (some_of _ c.ok_or.ensures.value c.in_ok-d.was)

pub returns-in_err-d : goal.returns-in_err-d
returns-in_err-d c =
    let (o, is) = none_of c.ok_or.ensures.value c.in_err-d.was in
    rw (handed_on c.from_residual.ensures.1, is) (found_behind _ _ _ (side_is_behind _ c.side_of.ensures o))

pub overflow_add-d : goal.overflow_add-d
overflow_add-d c =
    let a = c.args in
    omega (arith, (ahead_by a.header.esi.0 a.first.0 c.in_ok-d.d (is_ahead (goal.at.overflow_add-d c).In_ok-d)).near, limits)

pub returns-then-d-n-gt-FARTHEST : goal.returns-then-d-n-gt-FARTHEST
unfolding farthest
returns-then-d-n-gt-FARTHEST c =
    found_ahead _ _ _ _ (is_ahead (goal.at.returns-then-d-n-gt-FARTHEST c).In_ok-d) c.if-d-n-gt-FARTHEST.true

pub returns : goal.returns
unfolding farthest
returns c =
    rw (c.saturating_sub.ensures, c.saturating_sub-rise.ensures)
    (found_location _ _ _ _ (is_ahead (goal.at.returns c).In_ok-d) c.if-d-n-gt-FARTHEST.false)
