-- `admission::repair::read_repair` meets its contract.
use Rattle.std.specs.Prelude.{◌≡◌, Ok}
use Rattle.words.specs.Words.{arith, ◌∙◌, sym, ap, true}
use Rattle.wire.specs.declared.RepairFields.{RepairFields}
use Rattle.wire.specs.Numbers.{within}
use Rattle.wire.specs.Packets.{first_esi}
use Rattle.wire.specs.Headers.{repair_header_of}
use Rattle.wire.proofs.Settings.{within_bounds}
use Rattle.coefficients.proofs.Fills.{lists_were_done}
use Rattle.holding.proofs.Headers.{headed}
use Rattle.admission.proofs.Locating.{handed_on}
use Rattle.admission.proofs.RepairReading.{fields_are, sized, few, lists_fit, repair_form_lem, repair_range, repair_out, repair_draws, repair_passed}
use Rattle.admission.proofs.repair.read_repair.Goals as goal
use Rattle.admission.proofs.repair.read_repair.Goals.{In-Ok, After-place}

-- The fields are the packet's, their first ESI too.
read : (c : In-Ok) → Ok c.in-Ok.fields ≡ repair_header_of c.in_ok-header.header.setting.size c.args.packet.now
read c = sym c.in-Ok.is ∙ c.read_repair.ensures

begins : (c : In-Ok) → c.in-Ok.fields.first.0 ≡ first_esi c.args.packet.now
begins c = ap (λ (y : RepairFields). y.first.0) (fields_are _ _ c.in-Ok.fields (read c))

-- It names as many positions as a window of the receiver may have.
fits : (c : After-place) → within 1 c.in_ok-header.header.setting.width c.in-Ok.fields.nss ≡ true
fits c = sym c.between.ensures ∙ c.if-not-between.false

pub returns-in_default : goal.returns-in_default
returns-in_default c =
    let h = c.in_ok-header in
    repair_form_lem _ _ _ h.header h.ensures.0 h.ensures.1 _ (sym c.in_default.is ∙ c.read_repair.ensures)

pub returns-then-not-between : goal.returns-then-not-between
returns-then-not-between c =
    let h = c.in_ok-header in
    let read = read (goal.at.returns-then-not-between c).In-Ok in
    repair_range _ _ _ h.header h.ensures.0 h.ensures.1 _ read (sym c.between.ensures ∙ c.if-not-between.true)

pub place-requires : goal.place-requires
place-requires c =
    let k = headed _ _ c.in_ok-header.ensures.0 in
    (k.valid, k.row_lt, (within_bounds 1 c.in_ok-header.header.setting.width c.in-Ok.fields.nss (sym c.between.ensures ∙ c.if-not-between.false)).1)

pub returns-in_err-based : goal.returns-in_err-based
returns-in_err-based c =
    let h = c.in_ok-header in
    let at = goal.at.returns-in_err-based c in
    let out = rw (begins at.In-Ok) at c.in_err-based.ensures in
    rw (handed_on c.from_residual-in_err-based.ensures.1)
    (repair_out _ _ _ h.header h.ensures.0 h.ensures.1 _ (read at.In-Ok) (fits at.After-place) _ out)

pub fill_lists-requires : goal.fill_lists-requires
fill_lists-requires c =
    let h = c.in_ok-header in
    let at = goal.at.fill_lists-requires c in
    let read = read at.In-Ok in
    let fits = fits at.After-place in
    let fit = lists_fit _ _ _ h.header h.ensures.0 h.ensures.1 _ read fits in
    (omega (arith, fit, c.requires), few _ _ _ h.header h.ensures.0 h.ensures.1 _ read fits, (sized _ _ _ read).0)

pub returns-in_err-draws : goal.returns-in_err-draws
returns-in_err-draws c =
    let h = c.in_ok-header in
    let at = goal.at.returns-in_err-draws c in
    let place = rw (begins at.In-Ok) at c.in_ok-based.ensures in
    rw (handed_on c.from_residual-in_err-draws.ensures.1)
    (repair_draws _ _ _ h.header h.ensures.0 h.ensures.1 _ (read at.In-Ok) (fits at.After-place) _ place.1 _ _
    (sym c.in_err-draws.was ∙ c.fill_lists.ensures.answer))

pub returns : goal.returns
returns c =
    let h = c.in_ok-header in
    let at = goal.at.returns c in
    let place = rw (begins at.In-Ok) at c.in_ok-based.ensures in
    let filled = c.in_ok-draws.was in
    let done = lists_were_done c.fill_lists.ensures filled in
    repair_passed _ _ _ h.header h.ensures.0 h.ensures.1 _ (read at.In-Ok) (fits at.After-place) _ place.1
    done.0 _ _ (c.fill_lists.ensures.bytes _ filled) _ place.0 (omega (arith, c.fill_lists.ensures.size, c.requires)) _ done.1
