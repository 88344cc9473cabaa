-- `block_encoder::put_adu` meets its contract.
use Rattle.std.specs.Prelude.{◌≡◌, ◌+◌, ◌-◌, ◌*◌}
use Rattle.words.specs.Words.{arith, ℕ, List, length, ◌∙◌, ap, drop, take}
use Rattle.memory.specs.Part.{splice}
use Rattle.memory.proofs.Parts.{put}
use Rattle.blocks.proofs.Symbols.{one_symbol}
use Rattle.block_encoder.proofs.Encoding.{lent}
use Rattle.block_encoder.proofs.put_adu.Goals as goal
use Rattle.block_encoder.proofs.put_adu.Goals.{Start}

-- Where the symbol stands, and how long it is.
abbrev at : Start → ℕ
at s = 96 + s.args.i * s.args.size

sized : (s : Start) → length (take (at s + s.args.size - at s) (drop (at s) s.args.mem.now)) ≡ s.args.size
sized s = lent (at s) s.args.size s.args.mem.now s.requires.3

pub write_symbol-requires : goal.write_symbol-requires
write_symbol-requires c =
    let n = c.requires.4 in
    rw (sized (goal.at.write_symbol-requires c).Start) (
      c.requires.0,
      c.requires.1,
      omega (arith, n, c.requires.1),
      omega (arith, one_symbol c.args.size (length c.args.adu.now) n),
    )

pub returns : goal.returns
returns c =
    let a = c.args in
    let w = c.write_symbol in
    put (at (goal.at.returns c).Start) a.size w.new.dst a.mem.now c.requires.3 w.auto.dst
    ∙ ap (λ (x : List ℕ). splice (at (goal.at.returns c).Start) x a.mem.now) (rw (sized (goal.at.returns c).Start) at w.ensures)
