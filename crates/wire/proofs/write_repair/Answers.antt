-- `wire::write_repair` meets its contract.
use Rattle.std.specs.Prelude.{◌+◌, ◌*◌, ◌++◌}
use Rattle.words.specs.Words.{refl}
use Rattle.memory.specs.Number.{bytes}
use Rattle.wire.specs.Packets.{repair_header}
use Rattle.wire.proofs.Adui.{front_next}
use Rattle.wire.proofs.write_repair.Goals as goal

pub returns : goal.returns
unfolding repair_header
returns c =
    let a = c.args in
    let x = bytes 2 a.key.0 in
    let y = bytes 2 (a.dt * 4096 + a.nss) in
    let z = bytes 4 a.first.0 in
    cc (front_next 2 x y a.out.now refl, front_next 4 (x ++ y) z a.out.now refl)
