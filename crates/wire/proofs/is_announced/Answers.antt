-- `wire::is_announced` meets its contract.
use Rattle.std.specs.Prelude.{◌<◌, ◌/◌}
use Rattle.words.specs.Words.{rules, arith}
use Rattle.memory.proofs.Parts.{get_or-part}
use Rattle.wire.specs.Flows.{announced, flows_in}
use Rattle.wire.proofs.is_announced.Goals as goal

pub returns : goal.returns
unfolding announced flows_in
returns c =
    let a = c.args in
    let h : a.flow < 256 = search rules in
    let l : a.flow / 8 < 32 = omega (arith, h) in
    rw (get_or-part 32 32 (a.flow / 8) a.mem.now l)
