-- `holding::find::stand` meets its contract.
use Rattle.std.specs.Prelude.{◌≡◌}
use Rattle.words.specs.Words.{arith, Some, None, ◌∙◌, sym, not-false, not-true}
use Rattle.history.specs.History.{side_of, ahead}
use Rattle.holding.specs.Header.{header_in}
use Rattle.holding.proofs.Standing.{side_is_ahead, side_is_behind, stands_unopened, stands_fresh, stands_behind, stands_past, stands_inside}
use Rattle.holding.proofs.find.stand.Goals as goal
use Rattle.holding.proofs.find.stand.Goals.{In_ok-header, In_ok-d}

-- What was read.
read : (c : In_ok-header) → header_in c.args.mem.now ≡ Some c.in_ok-header.header
read c = sym c.read_header.ensures ∙ c.in_ok-header.ensures.ok_part

lies : (c : In_ok-d) → side_of c.in_ok-header.header.esi.0 c.args.esi.0 ≡ ahead c.in_ok-d.d
lies c = side_is_ahead _ c.in_ok-d.d c.side_of.ensures c.in_ok-d.ensures.ok_part

pub returns-in_err-header : goal.returns-in_err-header
returns-in_err-header c =
    let o : c.read_header.result ≡ None = grind arith in
    let z = stands_unopened c.args.mem.now c.args.esi.0 (sym c.read_header.ensures ∙ o) in
    grind arith

pub returns-then-not-header : goal.returns-then-not-header
returns-then-not-header c =
    let h = c.in_ok-header.header in
    stands_fresh _ _ h (read (goal.at.returns-then-not-header c).In_ok-header) (not-true h.joined c.if-not-header.true)

pub returns-in_err-d : goal.returns-in_err-d
returns-in_err-d c =
    let h = c.in_ok-header.header in
    let o : c.side_of.result ≡ None = grind arith in
    let z = stands_behind c.args.mem.now c.args.esi.0 h (read (goal.at.returns-in_err-d c).In_ok-header) (not-false h.joined c.if-not-header.false)
    (side_is_behind _ c.side_of.ensures o) in
    grind arith

pub returns-then-d-header : goal.returns-then-d-header
returns-then-d-header c =
    let h = c.in_ok-header.header in
    let p = goal.at.returns-then-d-header c in
    stands_past _ _ h (read p.In_ok-header) (not-false h.joined c.if-not-header.false) _ (lies p.In_ok-d) c.if-d-header.true

pub returns : goal.returns
returns c =
    let h = c.in_ok-header.header in
    let p = goal.at.returns c in
    rw c.shape.ensures
    (stands_inside _ _ h (read p.In_ok-header) (not-false h.joined c.if-not-header.false) _ (lies p.In_ok-d) c.if-d-header.false)
