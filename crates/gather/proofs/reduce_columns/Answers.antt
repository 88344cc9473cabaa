-- `gather::reduce_columns` meets its contract.
use Rattle.words.specs.Words.{arith, rules, subst, replicate}
use Rattle.memory.proofs.Parts.{cut}
use Rattle.gather.specs.GatherSteps.{Collected}
use Rattle.gather.proofs.Reducing.{length_lent, zeros, state_none, state_some}
use Rattle.gather.proofs.reduce_columns.Goals as goal

pub collect-requires : goal.collect-requires
collect-requires c =
    let a = c.args in (
      c.requires.0,
      length_lent c.row_offset-at.result a.shape.width a.work.now (omega arith),
      search rules,
      search rules,
      search rules,
    )

pub add_rows-requires : goal.add_rows-requires
add_rows-requires c = (c.requires.0, c.requires.1, omega (arith, c.collect.ensures.size))

pub returns-then-collect : goal.returns-then-collect
returns-then-collect c =
    let a = c.args in
    let at = c.row_offset-at in
    let found = c.collect in
    let read = subst (λ l. Collected a.shape.width a.shape.size a.first a.n found.result a.mem.now l (replicate 255 0)
    found.new.multipliers) (cut at.result a.shape.width a.work.now) found.ensures in
    state_some a.shape.width a.shape.size a.k a.first a.n at.result found.result a.mem.now a.work.now (replicate 255 0)
    found.new.multipliers at.ensures.start c.requires.1 (zeros 255) read c.add_rows.new.work
    c.add_rows.ensures

pub returns-else-collect : goal.returns-else-collect
returns-else-collect c =
    let a = c.args in
    let at = c.row_offset-at in
    let found = c.collect in
    let read = subst (λ l. Collected a.shape.width a.shape.size a.first a.n found.result a.mem.now l (replicate 255 0)
    found.new.multipliers) (cut at.result a.shape.width a.work.now) found.ensures in
    state_none a.shape.width a.shape.size a.k a.first a.n at.result found.result a.mem.now a.work.now (replicate 255 0)
    found.new.multipliers at.ensures.start c.requires.1 (zeros 255) read c.if-collect.false
