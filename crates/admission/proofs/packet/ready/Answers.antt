-- `admission::packet::ready` meets its contract.
use Rattle.std.specs.Prelude.{◌≡◌}
use Rattle.words.specs.Words.{Some, ◌∙◌, sym}
use Rattle.holding.specs.Header.{header_in}
use Rattle.holding.proofs.Headers.{headed}
use Rattle.admission.proofs.Locating.{some_of}
use Rattle.admission.proofs.Reading.{failed_short}
use Rattle.admission.proofs.packet.ready.Goals as goal
use Rattle.admission.proofs.packet.ready.Goals.{In_ok-header}

-- The memory has the header.
has : (c : In_ok-header) → header_in c.args.mem.now ≡ Some c.in_ok-header.header
has c = sym c.read_header.ensures ∙ some_of _ c.ok_or.ensures.value c.in_ok-header.was

pub working_size-requires : goal.working_size-requires
working_size-requires c = (headed _ _ (has (goal.at.working_size-requires c).In_ok-header)).valid

pub returns-then-room-working_size : goal.returns-then-room-working_size
returns-then-room-working_size c = λ call.
    let has = has (goal.at.returns-then-room-working_size c).In_ok-header in
    failed_short call _ _ _ has (rw c.working_size.ensures at c.if-room-working_size.true)
