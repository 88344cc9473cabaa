-- `memory::store_u16` meets its contract.
use Rattle.std.specs.Prelude.{◌≡◌, ◌%◌, ◌^◌, ◌/◌, ◌∷◌}
use Rattle.words.specs.Words.{arith, ℕ, [], ap, ◌∙◌}
use Rattle.memory.specs.Part.{splice}
use Rattle.memory.proofs.Parts.{put}
use Rattle.memory.proofs.store_u16.Goals as goal

pub returns : goal.returns
returns c =
    let a = c.args in
    let v = a.v in
    let m = a.mem.now in
    let s = c.copy_from_slice in
    let last : v % 256 ≡ v / 256 ^ 0 % 256 = omega arith in
    put a.at 2 s.new.self m (omega arith) s.auto.self
    ∙ ap (λ x. splice a.at x m) (s.ensures.after ∙ c.to_be_bytes.ensures ∙ ap (λ (x : ℕ). v / 256 ^ 1 % 256 ∷ x ∷ []) last)
