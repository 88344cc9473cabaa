-- `gather::settle` meets its contract.
use Rattle.std.specs.Prelude.{◌≡◌, ◌+◌, ◌<◌}
use Rattle.words.specs.Words.{arith, rules, ap, subst}
use Rattle.table.specs.Window.{row}
use Rattle.gather.specs.GatherSteps.{Searched, Leading, Normalised}
use Rattle.gather.proofs.Framing.{works_none}
use Rattle.gather.proofs.Admitting.{settled_kept, settled_implied, settled_contradiction}
use Rattle.gather.proofs.settle.Goals as goal

pub find_pivot-requires : goal.find_pivot-requires
find_pivot-requires c = (works_none c.requires.0, search rules, omega (arith, c.min.ensures, c.requires.0.within), omega (arith, c.min.ensures))

-- The only row that is looked at is the row `k`.
pub returns-in-Some : goal.returns-in-Some
returns-in-Some c =
    let a = c.args in
    let (i, near, is, from, to, before, led) = c.in-Some.ensures in
    let here : c.in-Some.r ≡ a.k = omega (arith, from, to, c.min.ensures) in
    let room : a.k < a.shape.width = omega (arith, from, to, c.min.ensures) in
    settled_kept _ _ _ _ _ c.requires.0 (λ i. search rules) c.in-Some.c i _ room near is
    (subst (λ x. Leading a.shape.width a.first i (row a.shape.width a.shape.size x a.work.now)) here led)
    (subst (λ x. Normalised a.shape.width a.shape.size x c.in-Some.c a.work.now c.normalise.new.work) here c.normalise.ensures)

pub returns-then-or_all-eq0 : goal.returns-then-or_all-eq0
returns-then-or_all-eq0 c =
    let a = c.args in
    let found = subst (λ p. Searched a.shape.width a.shape.size a.first a.k c.min.result p a.work.now) c.in_default.is c.find_pivot.ensures in
    settled_implied _ _ _ _ _ c.requires.0 (λ i. search rules) (c.row_offset.result + a.shape.width)
    (ap (λ x. x + a.shape.width) c.row_offset.ensures.start) (λ h. found a.k (omega arith) (omega (arith, c.min.ensures)))
    (c.or_all.ensures.0 c.if-or_all-eq0.true)

pub returns : goal.returns
returns c =
    let a = c.args in
    let found = subst (λ p. Searched a.shape.width a.shape.size a.first a.k c.min.result p a.work.now) c.in_default.is c.find_pivot.ensures in
    settled_contradiction _ _ _ _ _ c.requires.0 (λ i. search rules) (c.row_offset.result + a.shape.width)
    (ap (λ x. x + a.shape.width) c.row_offset.ensures.start) (λ h. found a.k (omega arith) (omega (arith, c.min.ensures)))
    (λ z. c.if-or_all-eq0.false (c.or_all.ensures.1 z))
