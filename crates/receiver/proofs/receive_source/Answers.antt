-- `receiver::receive_source` meets its contract.
use Rattle.words.specs.Words.{arith, refl}
use Rattle.wire.specs.Packets.{source_adu}
use Rattle.admission.proofs.Locating.{handed_on, some_of, none_of}
use Rattle.receiver.proofs.Receiving.{received_failed, accept_asks}
use Rattle.receiver.proofs.Drawing.{answered_refused, answered_done}
use Rattle.receiver.proofs.SourceCall.{gather_asks, call_contradicts, call_done}
use Rattle.receiver.proofs.receive_source.Goals as goal

pub returns-in_err-header : goal.returns-in_err-header
returns-in_err-header c =
    rw (handed_on c.from_residual.ensures.1) (answered_refused (received_failed _ _ _ _ c.in_err-header.ensures))

pub gather_source-gathered-requires : goal.gather_source-gathered-requires
unfolding source_adu
gather_source-gathered-requires c = gather_asks c.args.flow _ _ _ _ c.in_ok-header.ensures _ refl

pub returns-in_err-kept : goal.returns-in_err-kept
unfolding source_adu
returns-in_err-kept c =
    let gathered = c.gather_source-gathered in
    let (o, is) = none_of c.ok_or.ensures.value c.in_err-kept.was in
    rw (handed_on c.from_residual-in_err-kept.ensures.1, is)
    (answered_refused (call_contradicts _ _ _ _ _ c.in_ok-header.ensures _ refl _ gathered.result gathered.ensures o))

pub accept-requires : goal.accept-requires
accept-requires c =
    let gathered = c.gather_source-gathered in
    let read = c.in_ok-header.ensures in
    accept_asks _ _ c.args.work.now _ _ _ _ read.passes _ gathered.result _ _
    (some_of _ c.ok_or.ensures.value c.in_ok-kept.was) gathered.ensures.works (omega (arith, read.named))

pub returns : goal.returns
unfolding source_adu
returns c =
    let s = c.in_ok-header.ensures in
    let gathered = c.gather_source-gathered in
    let kept = some_of _ c.ok_or.ensures.value c.in_ok-kept.was in
    let accepted = c.accept.ensures in
    answered_done s.header _ _ _ _ gathered.result _ _ _ _ s.passes.has kept
    gathered.ensures.works accepted refl (omega arith)
    (call_done _ _ _ _ _ s _ refl _ gathered.result gathered.ensures _ _ _ kept accepted)
