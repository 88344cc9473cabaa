-- `lines::read_packet` meets its contract.
use Rattle.lines.proofs.Texts.{after_found, after_missing}
use Rattle.lines.proofs.read_packet.Goals as goal

pub returns-in_err-strip_prefix : goal.returns-in_err-strip_prefix
returns-in_err-strip_prefix c = rw c.from_residual.ensures (record { bytes = rw (after_missing _ _ c.in_err-strip_prefix.ensures.cases); fits = tt })

pub returns : goal.returns
returns c =
    let h = c.in_ok-strip_prefix.ensures.cases in
    record { bytes = rw (after_found _ _ _ h.0 h.1) c.read_bytes.ensures.bytes; fits = c.read_bytes.ensures.fits }
