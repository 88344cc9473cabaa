-- `lines::read_first` meets its contract: each way out rewrites with the fields that were read.
use Rattle.lines.specs.Reading.{values_in}
use Rattle.lines.proofs.Answers.{number-some, number-none, nothing_left, something_left}
use Rattle.lines.proofs.read_first.Goals as goal

pub returns-in_err-scheme : goal.returns-in_err-scheme
unfolding values_in
returns-in_err-scheme c = rw (c.from_residual.ensures, number-none c.read_field.ensures c.in_err-scheme.was)

pub returns-in_err-size : goal.returns-in_err-size
unfolding values_in
returns-in_err-size c =
    rw (c.from_residual-in_err-size.ensures, number-some c.read_field.ensures c.in_ok-scheme.was, number-none c.read_field-2.ensures c.in_err-size.was)

pub returns-in_err-width : goal.returns-in_err-width
unfolding values_in
returns-in_err-width c =
    rw (
      c.from_residual-in_err-width.ensures,
      number-some c.read_field.ensures c.in_ok-scheme.was,
      number-some c.read_field-2.ensures c.in_ok-size.was,
      number-none c.read_field-3.ensures c.in_err-width.was,
    )

pub returns-then-not-is_empty : goal.returns-then-not-is_empty
unfolding values_in
returns-then-not-is_empty c =
    rw (
      number-some c.read_field.ensures c.in_ok-scheme.was,
      number-some c.read_field-2.ensures c.in_ok-size.was,
      number-some c.read_field-3.ensures c.in_ok-width.was,
      something_left _ c.in_ok-width.rest.now (c.if-not-is_empty.ensures),
    )

pub returns : goal.returns
unfolding values_in
returns c =
    rw (
      number-some c.read_field.ensures c.in_ok-scheme.was,
      number-some c.read_field-2.ensures c.in_ok-size.was,
      number-some c.read_field-3.ensures c.in_ok-width.was,
      nothing_left _ c.in_ok-width.rest.now (c.if-not-is_empty.ensures),
    )
