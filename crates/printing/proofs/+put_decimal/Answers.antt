-- `printing::put_decimal` meets its contract. The measure is the number, of which each call of itself loses the last digit.
use Rattle.std.specs.Prelude.{◌+◌, ◌%◌}
use Rattle.words.specs.Words.{arith, rules}
use Rattle.text.proofs.Decimals.{decimal_small, decimal-more, decimal_positive, length_more}
use Rattle.printing.proofs.Laws.{put_then, put_byte}
use Rattle.printing.proofs.+put_decimal.Goals as goal

pub bounds-out-at : goal.bounds-out-at
bounds-out-at t c = omega (arith, decimal_positive c.args.n)

pub returns-then-n-lt10 : goal.returns-then-n-lt10
returns-then-n-lt10 t c =
    let a = c.args in
    rw (decimal_small a.n (omega arith)) (put_byte a.at (48 + a.n) a.out.now (omega (arith, decimal_positive a.n)))

pub put_decimal-next-requires : goal.put_decimal-next-requires
put_decimal-next-requires t c = (search rules, omega (arith, length_more c.args.n (omega arith)))

pub bounds-out-next : goal.bounds-out-next
bounds-out-next t c = omega (arith, length_more c.args.n (omega arith))

pub returns : goal.returns
returns t c =
    let n = c.args.n in
    let r = c.put_decimal-next in
    rw (decimal-more n (omega arith))
    (put_then r.ensures (put_byte r.result (48 + n % 10) r.new.out (omega (arith, length_more n (omega arith)))))
