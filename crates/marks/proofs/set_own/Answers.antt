-- `marks::set_own` meets its contract.
use Rattle.marks.proofs.Passing.{owned_some, owned_none}
use Rattle.marks.proofs.set_own.Goals as goal

pub returns-then-named-eq0 : goal.returns-then-named-eq0
returns-then-named-eq0 c = owned_none _ _ _ _ _ _ c.if-named-eq0.true

pub returns : goal.returns
returns c =
    owned_some _ _ _ _ _ _ _ _ c.if-named-eq0.false c.set.ensures c.set-2.ensures
