-- `block_encoder::write_repair` meets its contract.
use Rattle.std.specs.Prelude.{◌≡◌, ◌≤◌, ◌+◌, ◌-◌}
use Rattle.words.specs.Words.{arith, ℕ, List, length, ◌∙◌, ap, drop, take}
use Rattle.memory.specs.Part.{splice}
use Rattle.memory.proofs.Parts.{put}
use Rattle.block_encoder.proofs.Encoding.{lent, repair-written}
use Rattle.block_encoder.proofs.write_repair.Goals as goal

pub encode-requires : goal.encode-requires
encode-requires c =
    let size = c.args.block.size in
    let room : 6 + size ≤ length c.write.new.out = omega (arith, c.write.auto.out, c.requires.2) in
    let sized : length (take (6 + size - 6) (drop 6 c.write.new.out)) ≡ size = lent 6 size c.write.new.out room in
    let s = c.requires in
    let v = s.0.values in
    rw sized (s.3, omega (arith, v.0), omega (arith, v.1, v.2), s.1)

pub returns : goal.returns
returns c =
    let size = c.args.block.size in
    let room : 6 + size ≤ length c.write.new.out = omega (arith, c.write.auto.out, c.requires.2) in
    let sized : length (take (6 + size - 6) (drop 6 c.write.new.out)) ≡ size = lent 6 size c.write.new.out room in
    let a = c.args in
    let symbol = rw sized at c.encode.ensures in
    repair-written a.block a.esi c.identifier_of.result c.identifier_of.ensures _ a.out.now c.write.new.out _ c.write.ensures
    (put 6 size c.encode.new.out c.write.new.out room c.encode.auto.out
    ∙ ap (λ (x : List ℕ). splice 6 x c.write.new.out) symbol)
