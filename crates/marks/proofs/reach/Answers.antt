-- `marks::reach` meets its contract.
use Rattle.words.specs.Words.{arith, inr, inl}
use Rattle.marks.proofs.Passing.{followed_none, followed_own}
use Rattle.marks.proofs.reach.Goals as goal

pub must_pass-requires : goal.must_pass-requires
must_pass-requires c =
    omega (arith, c.requires.0.room)

pub returns-then-must_pass : goal.returns-then-must_pass
returns-then-must_pass c =
    record { how = inl c.pass.ensures }

pub returns-then-named-eq0 : goal.returns-then-named-eq0
returns-then-named-eq0 c =
    let may = c.must_pass.ensures.walks c.if-must_pass.false in
    record { how = inr (may, followed_none _ _ _ _ _ (λ k h. omega (arith, h.0, c.if-named-eq0.true))) }

pub returns : goal.returns
returns c =
    let may = c.must_pass.ensures.walks c.if-must_pass.false in
    record { how = inr (may, followed_own _ _ _ _ _ _ _ c.walk_all.ensures) }
