-- `rows::scale_part` meets its contract.
use Rattle.words.specs.Words.{arith, ◌∙◌}
use Rattle.memory.proofs.Parts.{put, cut}
use Rattle.rows.proofs.scale_part.Goals as goal

pub returns : goal.returns
returns c =
    let a = c.args in
    let r = c.scale in
    put a.a a.n r.new.row a.mem.now (omega arith) r.auto.row ∙ rw (r.ensures, cut a.a a.n a.mem.now)
