-- `coefficients::draw_list` meets its contract. The loop's invariant: the bytes before the index are the first coefficients (`Partly`).
use Rattle.std.specs.Prelude.{◌≡◌}
use Rattle.words.specs.Words.{arith, length, sym, length-set}
use Rattle.coefficients.proofs.Fills.{partly_none, partly_more, next_draws, partly_draws, partly_refused, partly_all, fills_done, fills_refused}
use Rattle.coefficients.proofs.Fills.{some_from, none_from, exit_err}
use Rattle.coefficients.proofs.draw_list.Goals as goal

pub loop-byte-init : goal.loop-byte-init
loop-byte-init c = partly_none _ _ _ _ c.start-state.ensures

pub returns-in_err-byte : goal.returns-in_err-byte
returns-in_err-byte c =
    let p = c.loop-byte in
    let (n, e) = none_from _ c.ok_or.ensures.value c.in_err-byte.was in
    rw (exit_err c.from_residual.ensures.1, e)
    (fills_refused (partly_refused p.invariant c.next_coefficient-c.ensures _ c.loop-byte-test.true n) (simp length-set p.auto.out))

-- 255 coefficients take at most 17 draws each
pub overflow_add-draws : goal.overflow_add-draws
overflow_add-draws c =
    let p = c.loop-byte.invariant in
    omega (arith, partly_draws p, next_draws p c.next_coefficient-c.ensures)

pub loop-byte-preserved : goal.loop-byte-preserved
loop-byte-preserved c =
    let p = c.loop-byte in
    partly_more p.invariant c.next_coefficient-c.ensures (omega arith) (some_from _ c.ok_or.ensures.value c.in_ok-byte.was)

pub returns : goal.returns
returns c =
    let p = c.loop-byte in
    let e : p.byte-index ≡ length c.args.out.now = omega arith in
    let f = rw e at p.invariant in
    fills_done f.ok f.draws p.auto.out (partly_all f (sym p.auto.out))
