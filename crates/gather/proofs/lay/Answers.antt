-- `gather::lay` meets its contract.
use Rattle.words.specs.Words.{arith}
use Rattle.gather.proofs.Laying.{laid_short, laid_long}
use Rattle.gather.proofs.lay.Goals as goal

pub returns-then-n-end : goal.returns-then-n-end
returns-then-n-end c =
    let a = c.args in
    let at = c.row_offset-at in
    laid_short a.shape.width a.shape.size a.k a.first a.coefficients.now a.work.now c.requires.0 (omega arith) (omega arith)
    at.result at.ensures.start
    (omega arith) c.fill_part.new.mem c.copy_part.new.mem
    c.fill_part.ensures c.copy_part.ensures

pub returns : goal.returns
returns c =
    let a = c.args in
    let at = c.row_offset-at in
    laid_long a.shape.width a.shape.size a.k a.first a.coefficients.now a.work.now c.requires.0 (omega arith) (omega arith)
    at.result at.ensures.start
    (omega arith) c.fill_part.new.mem
    c.copy_part-2.new.mem c.copy_part-3.new.mem
    c.fill_part.ensures
    c.copy_part-2.ensures c.copy_part-3.ensures
