-- `interleave::interleave` meets its contract.
use Rattle.interleave.proofs.Answers.{fits_done, rearranged, left, exit_err}
use Rattle.interleave.proofs.interleave.Goals as goal

pub send-requires : goal.send-requires
send-requires c = fits_done c.answer_to.ensures c.in_ok-n.was

pub returns : goal.returns
returns c = rearranged c.answer_to.ensures c.in_ok-n.was c.send.ensures

pub returns-in_err-n : goal.returns-in_err-n
returns-in_err-n c = rw (exit_err c.from_residual.ensures.1) (left c.answer_to.ensures c.in_err-n.was)
