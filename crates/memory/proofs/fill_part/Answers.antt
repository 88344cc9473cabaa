-- `memory::fill_part` meets its contract.
use Rattle.std.specs.Prelude.{◌≡◌}
use Rattle.words.specs.Words.{arith, length, ap, replicate, ◌∙◌}
use Rattle.memory.specs.Part.{part, splice}
use Rattle.memory.proofs.Parts.{put, cut, length_part}
use Rattle.memory.proofs.fill_part.Goals as goal

pub returns : goal.returns
returns c =
    let a = c.args in
    let m = a.mem.now in
    let f = c.fill in
    let l : length (part a.a a.n m) ≡ a.n = length_part a.a a.n m (omega arith) in
    put a.a a.n f.new.self m (omega arith) f.auto.self
    ∙ ap (λ x. splice a.a x m) (f.ensures.after (λ y e. e) ∙ ap (λ n. replicate n a.v) (ap length (cut a.a a.n m) ∙ l))
