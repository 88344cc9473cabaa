-- `block_receiver::take::lay_source` meets its contract.
use Rattle.std.specs.Prelude.{◌≡◌, ◌≤◌, ◌+◌, ◌-◌}
use Rattle.words.specs.Words.{arith, ℕ, List, length, ◌∙◌, ap, drop, take}
use Rattle.memory.specs.Part.{splice}
use Rattle.memory.proofs.Parts.{cut, put, length_part}
use Rattle.block_receiver.specs.Inner.{row_with}
use Rattle.block_receiver.proofs.Taking.{work_room}
use Rattle.blocks.proofs.Symbols.{one_symbol}
use Rattle.block_receiver.proofs.take.lay_source.Goals as goal

pub fill_part-requires : goal.fill_part-requires
fill_part-requires c = let w = c.requires.1 in (omega (arith, work_room _ _ _ w), w.some_width, w.wide, c.requires.2)

-- The coefficients are laid, and the symbol has room after them.
lent : (k size : ℕ) (half : List ℕ) → 96 + k + size ≤ length half → length (take (96 + k + size - (96 + k)) (drop (96 + k) half)) ≡ size
lent k size half room = rw (cut (96 + k) size half) (length_part (96 + k) size half room)

pub slice_bounds-write_symbol-end : goal.slice_bounds-write_symbol-end
slice_bounds-write_symbol-end c =
    let b = c.args.block in
    let half = c.fill_part.new.mem in
    let room : 96 + b.k + b.size ≤ length half = omega (arith, work_room _ _ _ c.requires.1, c.fill_part.auto.mem) in
    room

pub write_symbol-requires : goal.write_symbol-requires
write_symbol-requires c =
    let b = c.args.block in
    let half = c.fill_part.new.mem in
    let room : 96 + b.k + b.size ≤ length half = omega (arith, work_room _ _ _ c.requires.1, c.fill_part.auto.mem) in
    let lent = lent b.k b.size half room in
    let v = c.requires.0 in
    rw lent (v.size_least, v.size_most, omega (arith, v.size_most, c.requires.3), omega (arith, one_symbol _ _ c.requires.3))

pub returns : goal.returns
unfolding row_with
returns c =
    let b = c.args.block in
    let half = c.fill_part.new.mem in
    let room : 96 + b.k + b.size ≤ length half = omega (arith, work_room _ _ _ c.requires.1, c.fill_part.auto.mem) in
    let lent = lent b.k b.size half room in
    let x = c.write_symbol in
    put (96 + b.k) b.size x.new.dst half room x.auto.dst
    ∙ ap (λ (y : List ℕ). splice (96 + b.k) y half) (rw lent at x.ensures)
    ∙ ap (splice (96 + b.k) _) c.fill_part.ensures
