-- `interpolation::fill_part` meets its contract.
use Rattle.std.specs.Prelude.{◌≡◌}
use Rattle.words.specs.Words.{arith, length}
use Rattle.memory.specs.Part.{part}
use Rattle.memory.proofs.Parts.{put, cut, length_part}
use Rattle.interpolation.proofs.fill_part.Goals as goal

pub returns : goal.returns
returns c =
    let a = c.args in
    let l : length (part a.a a.k a.mem.now) ≡ a.k = length_part a.a a.k a.mem.now (omega arith) in
    cc (put a.a a.k c.fill.new.out a.mem.now (omega arith) c.fill.auto.out, cut a.a a.k a.mem.now, l)
