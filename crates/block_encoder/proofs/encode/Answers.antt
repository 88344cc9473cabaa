-- `block_encoder::encode` meets its contract.
use Rattle.std.specs.Prelude.{◌≡◌, ◌≤◌, ◌+◌, ◌*◌}
use Rattle.words.specs.Words.{ℕ, length, ap, ◌∙◌, take, replicate, length-take-le}
use Rattle.interpolation.specs.Lagrange.{lagranges}
use Rattle.block_encoder.proofs.Encoding.{symbol_made}
use Rattle.block_encoder.proofs.encode.Goals as goal

pub returns : goal.returns
returns c =
    let a = c.args in
    let lent : length (take a.k (replicate {A = ℕ} 255 0)) ≡ a.k = length-take-le _ _ c.requires.2 in
    let filled : length c.fill.new.out ≡ a.k = c.fill.auto.out ∙ lent in
    let room : 96 + length c.fill.new.out * length a.out.now ≤ length a.mem.now = rw filled c.requires.0 in
    symbol_made a.k _ a.esi a.mem.now c.fill.new.out _ room c.combine.ensures
    (c.fill.ensures ∙ ap (λ (n : ℕ). lagranges n a.esi) lent) filled
