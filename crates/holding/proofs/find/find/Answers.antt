-- `holding::find::find` meets its contract.
use Rattle.words.specs.Words.{arith}
use Rattle.std.proofs.lemmas.Result.{err_from_is_err_and}
use Rattle.holding.proofs.Standing.{Stood, stood, looks, hidden}
use Rattle.holding.proofs.Finding.{finds_outside, finds_unknown, finds_at}
use Rattle.holding.proofs.find.find.Goals as goal
use Rattle.holding.proofs.find.find.Goals.{In_ok-shape}

-- Where it stands.
stands : (c : In_ok-shape) → Stood c.args.mem.now c.args.esi.0 c.in_ok-shape.d c.in_ok-shape.shape
stands c = stood _ _ _ _ c.stand.ensures c.in_ok-shape.was

pub returns-in_err-shape : goal.returns-in_err-shape
returns-in_err-shape c =
    let p = err_from_is_err_and c.from_residual.result c.from_residual.ensures.1 in
    rw (p.1, p.2) (finds_outside _ _ _ (hidden _ _ _ c.stand.ensures c.in_err-shape.was))

pub row_of-row-requires : goal.row_of-row-requires
row_of-row-requires c =
    let l = looks (stands (goal.at.row_of-row-requires c).In_ok-shape) in
    (l.oldest, l.inside, l.fits.wide)

pub is_known-requires : goal.is_known-requires
is_known-requires c = ((looks (stands (goal.at.is_known-requires c).In_ok-shape)).fits, c.row_of-row.ensures.small)

pub returns-then-not-is_known : goal.returns-then-not-is_known
returns-then-not-is_known c =
    finds_unknown _ _ _ _ (stands (goal.at.returns-then-not-is_known c).In_ok-shape) _ c.row_of-row.ensures _ c.is_known.ensures
    c.if-not-is_known.true

pub is_heard-heard-requires : goal.is_heard-heard-requires
is_heard-heard-requires c =
    let l = looks (stands (goal.at.is_heard-heard-requires c).In_ok-shape) in
    (l.fits, l.origins, c.row_of-row.ensures.small)

pub symbol_offset-requires : goal.symbol_offset-requires
symbol_offset-requires c =
    let f = (looks (stands (goal.at.symbol_offset-requires c).In_ok-shape)).fits in
    (omega (arith, c.row_of-row.ensures.small), f.wide, f.long)

pub returns : goal.returns
returns c =
    finds_at _ _ _ _ (stands (goal.at.returns c).In_ok-shape) _ c.row_of-row.ensures _ c.is_known.ensures
    c.if-not-is_known.false (λ i. (c.type_inv.mem i).fits) _ c.symbol_offset.ensures.start _ c.is_heard-heard.ensures
