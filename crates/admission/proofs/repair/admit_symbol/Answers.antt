-- `admission::repair::admit_symbol` meets its contract.
use Rattle.std.specs.Prelude.{◌≡◌, ◌≤◌, ◌+◌, ◌-◌, ◌++◌}
use Rattle.words.specs.Words.{ℕ, List, length, drop, take, ◌∙◌}
use Rattle.memory.specs.Part.{splice}
use Rattle.memory.proofs.Parts.{put}
use Rattle.table.specs.Window.{row_offset}
use Rattle.table.specs.RowSteps.{SymbolAt}
use Rattle.admission.proofs.Gathering.{symbol_room, works_stored}
use Rattle.admission.proofs.Repairing.{symbol_admitted}
use Rattle.admission.proofs.repair.admit_symbol.Goals as goal
use Rattle.admission.proofs.repair.admit_symbol.Goals.{After-symbol_offset-at}

-- The row's symbol lies in working memory.
inside : (c : After-symbol_offset-at) → c.symbol_offset-at.result + c.args.location.shape.size ≤ length c.args.work.now
inside c =
    let a = c.args in
    let s = a.location.shape in
    symbol_room s.width s.size a.kept _ a.work.now c.symbol_offset-at.ensures c.requires.1

-- The symbol as it was stored.
stored : (w size k at : ℕ) (symbol x work : List ℕ) → SymbolAt w size k at → at + size ≤ length work
    → length x ≡ length (take (at + size - at) (drop at work)) → x ≡ symbol
    → take at work ++ (x ++ drop (at + size - at) (drop at work)) ≡ splice (row_offset w size k + w) symbol work
stored w size k at symbol x work start room long is = put at size x work room long ∙ rw (start.start, is)

pub admit_equation-requires : goal.admit_equation-requires
admit_equation-requires c =
    let a = c.args in
    let s = a.location.shape in
    let p = c.requires in
    let room = inside (goal.at.admit_equation-requires c).After-symbol_offset-at in
    let is = stored s.width s.size a.kept _ _ _ a.work.now c.symbol_offset-at.ensures room c.copy.auto.dst c.copy.ensures in
    (p.0, works_stored _ _ a.kept _ _ _ p.1 p.5 is, p.2, p.3, p.4)

pub returns : goal.returns
returns c =
    let a = c.args in
    let s = a.location.shape in
    let room = inside (goal.at.returns c).After-symbol_offset-at in
    let is = stored s.width s.size a.kept _ _ _ a.work.now c.symbol_offset-at.ensures room c.copy.auto.dst c.copy.ensures in
    symbol_admitted a.location a.kept a.list.now a.symbol.now a.mem.now a.work.now _ _ _ c.requires.1 c.requires.5 is c.admit_equation.ensures
