-- `rows::add_part_or` meets its contract.
use Rattle.std.specs.Prelude.{◌≡◌}
use Rattle.words.specs.Words.{arith, length, ◌∙◌, ap}
use Rattle.memory.proofs.Parts.{put, cut, length_part}
use Rattle.rows.proofs.Turns.{zero_put}
use Rattle.rows.proofs.add_part_or.Goals as goal

pub returns : goal.returns
returns c =
    let a = c.args in
    let r = c.add_or in
    let size : length r.new.dst ≡ a.n = r.auto.dst ∙ ap length (cut a.a a.n a.mem.now) ∙ length_part a.a a.n a.mem.now (omega arith) in
    let whole = put a.a a.n r.new.dst a.mem.now (omega arith) r.auto.dst in (
      whole ∙ rw (r.ensures.0, cut a.a a.n a.mem.now, cut a.b a.n a.src.now),
      zero_put r.result a.a a.n r.new.dst a.mem.now _ (omega arith) size whole (λ e j h. r.ensures.1 e j (omega (arith, size, r.auto.dst))),
    )
