-- `gather::reduce` meets its contract.
use Rattle.words.specs.Words.{subst, sym}
use Rattle.gather.specs.GatherSteps.{StateReduced}
use Rattle.gather.proofs.Reducing.{state_empty}
use Rattle.gather.proofs.reduce.Goals as goal

pub returns-then-n-eq0 : goal.returns-then-n-eq0
returns-then-n-eq0 c =
    let a = c.args in (
      subst (λ n. StateReduced a.shape.width a.shape.size a.k a.first n a.mem.now a.work.now a.work.now) (sym c.if-n-eq0.true)
          (state_empty a.shape.width a.shape.size a.k a.first a.mem.now a.work.now c.requires.1),
      λ e. cc,
    )

pub returns-then-n-eq1 : goal.returns-then-n-eq1
returns-then-n-eq1 c =
    let a = c.args in
    let sum = c.reduce_column in (
      subst (λ n. StateReduced a.shape.width a.shape.size a.k a.first n a.mem.now a.work.now sum.new.work) (sym c.if-n-eq1.true)
          sum.ensures.0,
      sum.ensures.1,
    )

pub returns : goal.returns
returns c = (c.reduce_columns.ensures, λ e. cc)
