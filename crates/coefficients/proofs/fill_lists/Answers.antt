-- `coefficients::fill_lists` meets its contract. The loop's invariant: the lists before i stand in the output (`Listed`).
use Rattle.std.specs.Prelude.{◌≡◌}
use Rattle.words.specs.Words.{arith}
use Rattle.coefficients.proofs.Fills.{listed-none, lent_length, listed_more, listed_draws, lists_refused, lists_done, exit_err}
use Rattle.coefficients.proofs.fill_lists.Goals as goal

pub loop-i-init : goal.loop-i-init
loop-i-init c = listed-none _ _ _ _ _ _

pub fill-requires : goal.fill-requires
fill-requires c =
    rw (lent_length c.requires.0 c.loop-i-test.true c.loop-i.invariant) c.requires.1

pub returns-in_err-draws : goal.returns-in_err-draws
returns-in_err-draws c =
    rw (exit_err c.from_residual.ensures.1)
    (lists_refused c.requires.0 c.loop-i-test.true c.loop-i.invariant c.fill.ensures c.in_err-draws.was)

pub overflow_add-draws : goal.overflow_add-draws
overflow_add-draws c =
    omega (
      arith,
      listed_draws c.requires.1 c.requires.2 (listed_more c.requires.0 c.loop-i-test.true c.loop-i.invariant c.fill.ensures
          c.in_ok-draws.was),
    )

pub loop-i-preserved : goal.loop-i-preserved
loop-i-preserved c =
    rw c.next-key.ensures (listed_more c.requires.0 c.loop-i-test.true c.loop-i.invariant c.fill.ensures c.in_ok-draws.was)

pub returns : goal.returns
returns c =
    let e : c.loop-i.i ≡ c.args.count = omega arith in
    lists_done (rw e at c.loop-i.invariant)
