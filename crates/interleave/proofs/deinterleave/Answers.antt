-- `interleave::deinterleave` meets its contract: the grid with rows and columns exchanged has the same bytes.
use native.Mathlib.Nat.{mul_comm}
use Rattle.interleave.proofs.Answers.{fits_done, turned_fits, rearranged, left, exit_err}
use Rattle.interleave.proofs.deinterleave.Goals as goal

pub send-requires : goal.send-requires
send-requires c = turned_fits (fits_done c.answer_to.ensures c.in_ok-n.was)

pub returns : goal.returns
returns c = rearranged c.answer_to.ensures c.in_ok-n.was (rw (mul_comm c.args.rows c.args.columns) c.send.ensures)

pub returns-in_err-n : goal.returns-in_err-n
returns-in_err-n c = rw (exit_err c.from_residual.ensures.1) (left c.answer_to.ensures c.in_err-n.was)
