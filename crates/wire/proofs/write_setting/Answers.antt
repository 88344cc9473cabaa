-- `wire::write_setting` meets its contract.
use Rattle.std.specs.Prelude.{◌++◌}
use Rattle.words.specs.Words.{refl}
use Rattle.memory.specs.Number.{bytes}
use Rattle.wire.specs.Settings.{scheme_number}
use Rattle.wire.specs.Stored.{setting_bytes}
use Rattle.wire.proofs.Adui.{front_next}
use Rattle.wire.proofs.write_setting.Goals as goal

pub returns : goal.returns
unfolding setting_bytes
returns c =
    let a = c.args in
    let x = bytes 2 a.kind in
    let y = bytes 2 (scheme_number a.setting.scheme) in
    let z = bytes 2 a.setting.size in
    let w = bytes 2 a.setting.width in
    cc (front_next 2 x y a.mem.now refl, front_next 4 (x ++ y) z a.mem.now refl, front_next 6 (x ++ (y ++ z)) w a.mem.now refl)
