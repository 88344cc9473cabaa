-- `lines::read_digits` meets its contract.
use Rattle.words.specs.Words.{arith, length, refl, ◌∙◌, sym, drop-length}
use lib.ListN.{drop_of_length-le}
use Rattle.lines.proofs.Numbers.{at_end, no_digit, too_large, one-digit, number_ends}
use Rattle.lines.proofs.read_digits.Goals as goal

pub returns-then-not-is_ascii_digit : goal.returns-then-not-is_ascii_digit
returns-then-not-is_ascii_digit c =
    let l = c.loop-i in
    number_ends l.i
    (sym l.invariant.1
    ∙ no_digit c.args.line.now c.args.most l.i l.value (omega arith) (sym c.is_ascii_digit.ensures.value ∙ c.if-not-is_ascii_digit.true))
    l.invariant.0 refl

pub returns-then-most-value : goal.returns-then-most-value
returns-then-most-value c =
    let l = c.loop-i in
    let digit = sym c.is_ascii_digit.ensures.value ∙ c.if-not-is_ascii_digit.false in
    let e = too_large c.args.line.now c.args.most l.i l.value (omega arith) digit c.if-most-value.true in
    record { number = sym e ∙ l.invariant.1; small = tt }

pub loop-i-preserved : goal.loop-i-preserved
loop-i-preserved c =
    let l = c.loop-i in
    let digit = sym c.is_ascii_digit.ensures.value ∙ c.if-not-is_ascii_digit.false in
    let e = one-digit c.args.line.now c.args.most l.i l.value (omega arith) digit c.if-most-value.false in
    (omega arith, e ∙ l.invariant.1)

pub returns : goal.returns
returns c =
    let l = c.loop-i in
    number_ends (length c.args.line.now)
    (sym l.invariant.1 ∙ at_end c.args.line.now c.args.most l.i l.value (omega arith)
    ∙ rw (drop_of_length-le c.args.line.now {i = l.i} (omega arith), drop-length))
    l.invariant.0 refl
