-- `marks::step` meets its contract.
use Rattle.words.specs.Words.{arith, rules}
use Rattle.table.proofs.Offsets.{flags_fit, row_end}
use Rattle.marks.proofs.Passing.{step_unmarked, step_unknown, step_long, step_far, step_again, step_near}
use Rattle.marks.proofs.step.Goals as goal

pub returns-then-not-is_marked : goal.returns-then-not-is_marked
returns-then-not-is_marked c =
    step_unmarked _ _ _ c.args.i _ c.requires.2 c.is_marked.result c.is_marked.ensures c.if-not-is_marked.true

pub returns-then-not-is_known : goal.returns-then-not-is_known
returns-then-not-is_known c =
    step_unknown _ _ _ c.args.i _ _ c.requires.2 c.row_of-r.ensures.is c.is_known.result c.if-not-is_known.true c.is_known.ensures

pub load_u16-requires : goal.load_u16-requires
load_u16-requires c =
    let s = c.args.shape in
    omega (arith, flags_fit s.width s.size, row_end s.width s.size c.row_of-r.result c.row_of-r.ensures.small)

pub returns-then-w-n : goal.returns-then-w-n
returns-then-w-n c =
    step_long _ _ _ c.args.i _ _ c.requires.2 c.row_of-r.ensures.is _ _ _ c.requires.0 (λ i. search rules)
    c.symbol_offset-at.ensures.start c.is_known.result c.if-not-is_known.false c.is_known.ensures
    c.load_u16.ensures c.symbol_count-n.ensures
    c.is_marked.result c.is_marked.ensures c.if-not-is_marked.false c.if-w-n.true

pub returns-then-w-i : goal.returns-then-w-i
returns-then-w-i c =
    step_far _ _ _ c.args.i _ _ c.requires.2 c.row_of-r.ensures.is _ _ _ c.requires.0 (λ i. search rules)
    c.symbol_offset-at.ensures.start c.is_known.result c.if-not-is_known.false c.is_known.ensures
    c.load_u16.ensures c.symbol_count-n.ensures
    c.is_marked.result c.is_marked.ensures c.if-not-is_marked.false _ c.if-w-i.true c.note.ensures

pub is_marked-requires-2 : goal.is_marked-requires-2
is_marked-requires-2 c =
    let s = c.requires in
    (s.0, s.1, omega (arith, s.2, c.if-w-i.false))

pub returns-then-is_marked : goal.returns-then-is_marked
returns-then-is_marked c =
    step_again _ _ _ c.args.i _ _ c.requires.2 c.row_of-r.ensures.is _ _ _ c.requires.0 (λ i. search rules)
    c.symbol_offset-at.ensures.start c.is_known.result c.if-not-is_known.false c.is_known.ensures
    c.load_u16.ensures c.symbol_count-n.ensures
    c.is_marked.result c.is_marked.ensures c.if-not-is_marked.false
    c.if-w-i.false c.is_marked-2.result c.is_marked-2.ensures c.if-is_marked.true

pub set-requires : goal.set-requires
set-requires c =
    let s = c.requires in
    (s.0, s.1, omega (arith, s.2, c.if-w-i.false))

pub returns : goal.returns
returns c =
    step_near _ _ _ c.args.i _ _ c.requires.2 c.row_of-r.ensures.is _ _ _ c.requires.0 (λ i. search rules)
    c.symbol_offset-at.ensures.start c.is_known.result c.if-not-is_known.false c.is_known.ensures
    c.load_u16.ensures c.symbol_count-n.ensures
    c.is_marked.result c.is_marked.ensures c.if-not-is_marked.false _ c.if-w-i.false c.set.ensures
