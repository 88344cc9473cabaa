-- `admission::packet::finish` meets its contract.
use Rattle.words.specs.Words.{arith}
use Rattle.placing.specs.Place.{Committed}
use Rattle.history.proofs.Sides.{limits}
use Rattle.admission.proofs.Joining.{based_fits}
use Rattle.admission.proofs.Finishing.{finished}
use Rattle.admission.proofs.packet.finish.Goals as goal
use Rattle.admission.proofs.packet.finish.Goals.{After-commit-count}

pub commit-count-requires : goal.commit-count-requires
commit-count-requires c =
    let p = c.requires in
    rw c.shape.ensures (based_fits c.args.mem.now c.args.header p.0, p.0.row_lt, p.1)

-- The rows' change with the shape written out.
committed : (c : After-commit-count)
    → let a = c.args in
    Committed a.header.setting.width a.header.setting.size a.header.oldest a.location.rise a.kept c.commit-count.result
    a.work.now a.mem.now c.commit-count.new.mem
committed c = rw c.shape.ensures at c.commit-count.ensures

pub overflow_cast-location : goal.overflow_cast-location
overflow_cast-location c = omega (arith, limits)

pub returns : goal.returns
returns c =
    let esi = c.store_u32 in
    let a = c.args in
    finished a.header a.location a.kept c.commit-count.result c.plus-next.result.0 a.work.now a.mem.now c.commit-count.new.mem esi.new.mem
    c.requires.0 (committed (goal.at.returns c).After-commit-count) c.requires.2 c.plus-next.ensures (rw c.store_u16.ensures at esi.ensures)
