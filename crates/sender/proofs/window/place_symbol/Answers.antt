-- `sender::window::place_symbol` meets its contract.
use Rattle.std.specs.Prelude.{◌≡◌, ◌+◌, ◌-◌}
use Rattle.words.specs.Words.{arith, ℕ, List, length, ◌∙◌, ap, drop, take}
use Rattle.memory.specs.Part.{splice}
use Rattle.memory.proofs.Parts.{cut, put, length_part}
use Rattle.sender.proofs.window.place_symbol.Goals as goal
use Rattle.sender.proofs.window.place_symbol.Goals.{Start}

lent : (p : Start) → length (take (p.args.a + p.args.size - p.args.a) (drop p.args.a p.args.mem.now)) ≡ p.args.size
lent p = rw (cut p.args.a p.args.size p.args.mem.now) (length_part p.args.a p.args.size p.args.mem.now (omega arith))

pub returns : goal.returns
returns c =
    let a = c.args in
    let x = c.write_symbol in
    put a.a a.size x.new.dst a.mem.now (omega arith) x.auto.dst
    ∙ ap (λ (y : List ℕ). splice a.a y a.mem.now) (rw (lent (goal.at.returns c).Start) at x.ensures)
