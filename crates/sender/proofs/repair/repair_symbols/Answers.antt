-- `sender::repair::repair_symbols` meets its contract.
use Rattle.std.specs.Prelude.{◌≡◌, ◌≤◌, ◌+◌, ◌*◌}
use Rattle.words.specs.Words.{arith, ℕ, List, length, refl, ◌∙◌, sym, ap, [], get_or}
use Rattle.memory.specs.Part.{splice}
use Rattle.memory.proofs.Parts.{cut, put, length-splice, row_fits}
use Rattle.sender.specs.Inner.{window_in, symbols_from}
use Rattle.sender.proofs.Combining.{carried_none, carried_more, carried_all, length_symbols, get_or-symbols}
use Rattle.rows.proofs.Combinations.{length-combination}
use Rattle.sender.proofs.repair.repair_symbols.Goals as goal
use Rattle.sender.proofs.repair.repair_symbols.Goals.{In-loop-i}

-- symbol i lies in the output, and its coefficients in the lists
inside : (p : In-loop-i) → 8 + p.loop-i.i * p.args.header.setting.size + p.args.header.setting.size ≤ length p.loop-i.out
inside p =
    let a = p.args in
    omega (arith, row_fits a.count a.header.setting.size p.loop-i.i p.loop-i-test.true, p.requires.1.symbols, p.loop-i.invariant.1)

within : (p : In-loop-i) → p.loop-i.i * p.args.header.held + p.args.header.held ≤ length p.args.lists.now
within p =
    let a = p.args in
    omega (arith, row_fits a.count a.header.held p.loop-i.i p.loop-i-test.true, p.requires.1.lists)

pub loop-i-init : goal.loop-i-init
loop-i-init c = (omega arith, refl, carried_none _ _ _)

pub loop-i-preserved : goal.loop-i-preserved
loop-i-preserved c =
    let p = (goal.at.loop-i-preserved c).In-loop-i in
    let a = c.args in
    let l = c.loop-i in
    let h = a.header in
    let size = h.setting.size in
    let r = c.repair_symbol in
    let xs = symbols_from h a.mem.now a.count a.lists.now in
    let k = c.loop-i-test.true in
    let g = get_or-symbols h a.mem.now a.count a.lists.now l.i k in
    let x : r.new.out ≡ get_or xs l.i [] = rw (cut (l.i * h.held) h.held a.lists.now) at r.ensures ∙ sym g in
    let e = put (8 + l.i * size) size r.new.out l.out (inside p) r.auto.out ∙ ap (λ (y : List ℕ). splice (8 + l.i * size) y l.out) x in
    let n : length (get_or xs l.i []) ≡ size = rw g (length-combination size _ (window_in h a.mem.now)) in (
      omega arith,
      ap length e ∙ length-splice (8 + l.i * size) (get_or xs l.i []) l.out (omega (arith, inside p, n)) ∙ l.invariant.1,
      rw e (carried_more xs size a.out.now l.i l.out (rw (length_symbols h a.mem.now a.count a.lists.now) k) n (omega arith) l.invariant.2),
    )

pub returns : goal.returns
returns c =
    let a = c.args in
    let l = c.loop-i in
    carried_all (symbols_from a.header a.mem.now a.count a.lists.now) a.header.setting.size a.out.now l.i l.out
    (rw (length_symbols a.header a.mem.now a.count a.lists.now) (omega arith)) l.invariant.2
