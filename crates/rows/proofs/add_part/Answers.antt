-- `rows::add_part` meets its contract.
use Rattle.words.specs.Words.{arith, ◌∙◌}
use Rattle.memory.proofs.Parts.{put, cut}
use Rattle.rows.proofs.add_part.Goals as goal

pub returns : goal.returns
returns c =
    let a = c.args in
    let r = c.add_scaled in
    put a.a a.n r.new.dst a.mem.now (omega arith) r.auto.dst
    ∙ rw (r.ensures, cut a.a a.n a.mem.now, cut a.b a.n a.src.now)
