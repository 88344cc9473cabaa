-- `admission::source::read_source` meets its contract.
-- A check that fails is the history's, and so are the checks that pass.
use Rattle.words.specs.Words.{arith, ◌∙◌, sym}
use Rattle.table.proofs.Offsets.{header-long}
use Rattle.holding.proofs.Headers.{headed, header_fits}
use Rattle.admission.proofs.Locating.{handed_on}
use Rattle.admission.proofs.SourceReading.{Fields, source-fields, source_form_lem, source-stray, source-long, source_many, source_out, source_passed}
use Rattle.admission.proofs.source.read_source.Goals as goal
use Rattle.admission.proofs.source.read_source.Goals.{In-Ok}

-- What the fields say of the packet.
reads : (c : In-Ok) → Fields c.args.packet.now c.in-Ok.fields
reads c = source-fields _ c.in-Ok.fields (sym c.in-Ok.is ∙ c.read_source.ensures)

pub returns-in_default : goal.returns-in_default
returns-in_default c =
    let h = c.in_ok-header in
    source_form_lem _ _ _ _ h.header h.ensures.0 h.ensures.1 _ (sym c.in_default.is ∙ c.read_source.ensures)

pub is_announced-requires : goal.is_announced-requires
is_announced-requires c =
    let k = header_fits _ _ c.in_ok-header.ensures.0 in
    omega (arith, header-long, k.room)

pub returns-then-not-is_announced : goal.returns-then-not-is_announced
returns-then-not-is_announced c =
    let h = c.in_ok-header in
    let known = sym c.is_announced.ensures ∙ c.if-not-is_announced.true in
    source-stray _ _ _ _ h.header h.ensures.0 h.ensures.1 (reads (goal.at.returns-then-not-is_announced c).In-Ok).form known

pub returns-then-fields-gt-LONGEST_ADU : goal.returns-then-fields-gt-LONGEST_ADU
returns-then-fields-gt-LONGEST_ADU c =
    let h = c.in_ok-header in
    let reads = reads (goal.at.returns-then-fields-gt-LONGEST_ADU c).In-Ok in
    let known = sym c.is_announced.ensures ∙ c.if-not-is_announced.false in
    source-long _ _ _ _ h.header h.ensures.0 h.ensures.1 _ reads known c.if-fields-gt-LONGEST_ADU.true

pub symbol_count-count-requires : goal.symbol_count-count-requires
symbol_count-count-requires c =
    let v = (headed _ _ c.in_ok-header.ensures.0).valid in
    omega (arith, v.size_least, v.size_most, c.if-fields-gt-LONGEST_ADU.false)

pub returns-then-setting-count : goal.returns-then-setting-count
returns-then-setting-count c =
    let h = c.in_ok-header in
    let reads = reads (goal.at.returns-then-setting-count c).In-Ok in
    let known = sym c.is_announced.ensures ∙ c.if-not-is_announced.false in
    source_many _ _ _ _ h.header h.ensures.0 h.ensures.1 _ reads known c.if-fields-gt-LONGEST_ADU.false _ c.symbol_count-count.ensures c.if-setting-count.true

pub place-requires : goal.place-requires
place-requires c =
    let k = headed _ _ c.in_ok-header.ensures.0 in
    (k.valid, k.row_lt, c.if-setting-count.false)

pub returns-in_err-based : goal.returns-in_err-based
returns-in_err-based c =
    let h = c.in_ok-header in
    let reads = reads (goal.at.returns-in_err-based c).In-Ok in
    let known = sym c.is_announced.ensures ∙ c.if-not-is_announced.false in
    let out = rw reads.esi at c.in_err-based.ensures in
    rw (handed_on c.from_residual-in_err-based.ensures.1)
    (source_out _ _ _ _ h.header h.ensures.0 h.ensures.1 _ reads known c.if-fields-gt-LONGEST_ADU.false _ c.symbol_count-count.ensures c.if-setting-count.false _ out)

pub returns : goal.returns
returns c =
    let h = c.in_ok-header in
    let reads = reads (goal.at.returns c).In-Ok in
    let known = sym c.is_announced.ensures ∙ c.if-not-is_announced.false in
    let (is, at) = rw reads.esi at c.in_ok-based.ensures in
    source_passed _ _ _ _ h.header h.ensures.0 h.ensures.1 _ reads known c.if-fields-gt-LONGEST_ADU.false _ c.symbol_count-count.ensures c.if-setting-count.false _
    is _ at
