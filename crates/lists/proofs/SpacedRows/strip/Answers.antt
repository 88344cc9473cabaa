-- `lists::SpacedRows::strip` meets its contract.
use Rattle.std.specs.Prelude.{◌+◌, ◌*◌}
use Rattle.words.specs.Words.{◌∙◌, ap, length}
use Rattle.memory.proofs.Parts.{cut, length_part}
use Rattle.rows.specs.Sums.{row_at}
use Rattle.lists.proofs.SpacedRows.strip.Goals as goal

pub returns : goal.returns
unfolding row_at
returns c =
    let s = c.args.self.now in
    let m = s.mem.now in
    let at = s.first + c.args.k * s.stride in
    (cut at 64 m, ap length (cut at 64 m) ∙ length_part at 64 m (s.fits c.args.k c.requires))
