-- `lines::read_field` meets its contract.
use Rattle.words.specs.Words.{arith}
use Rattle.lines.proofs.Texts.{after_found, after_missing}
use Rattle.lines.proofs.Numbers.{number_within}
use Rattle.lines.proofs.read_field.Goals as goal

pub returns-in_err-strip_prefix : goal.returns-in_err-strip_prefix
returns-in_err-strip_prefix c = rw c.from_residual.ensures (record { number = rw (after_missing _ _ c.in_err-strip_prefix.ensures.cases); small = tt })

pub returns : goal.returns
returns c =
    let h = c.in_ok-strip_prefix.ensures.cases in
    number_within _ _ (omega arith) (rw (after_found _ _ _ h.0 h.1) c.read_number.ensures.number) c.read_number.ensures.small
