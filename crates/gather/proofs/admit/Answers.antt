-- `gather::admit` meets its contract.
use Rattle.words.specs.Words.{arith, rules}
use Rattle.table.specs.Packet.{Works}
use Rattle.table.proofs.Offsets.{flags_fit}
use Rattle.gather.proofs.Framing.{works_only}
use Rattle.gather.proofs.Reducing.{state_only}
use Rattle.gather.proofs.Admitting.{admitted, admitted_zero}
use Rattle.gather.proofs.admit.Goals as goal
use Rattle.gather.proofs.admit.Goals.{After-staying-n, After-reduce-any}

-- The state's rows change the row `kept` alone.
works-then : (p : After-reduce-any) → Works p.args.shape.width p.args.shape.size p.args.kept p.reduce-any.new.work
works-then p =
    let a = p.args in
    works_only (omega (arith, flags_fit a.shape.width a.shape.size))
    (state_only a.shape.width a.shape.size a.kept a.first p.staying-n.result a.mem.now
    a.work.now p.reduce-any.new.work p.requires.1 p.reduce-any.ensures.0) p.requires.1

pub reduce-any-requires : goal.reduce-any-requires
reduce-any-requires c =
    (c.requires.0, c.requires.1, search rules, omega (arith, c.staying-n.ensures.few))

pub reduce_within-requires : goal.reduce_within-requires
reduce_within-requires c = works-then (goal.at.reduce_within-requires c).After-reduce-any

pub settle-requires : goal.settle-requires
settle-requires c =
    let a = c.args in (
      works_only (omega (arith, flags_fit a.shape.width a.shape.size)) c.reduce_within.ensures.only
          (works-then (goal.at.settle-requires c).After-reduce-any),
      search rules,
    )

pub returns-then-not-any : goal.returns-then-not-any
returns-then-not-any c =
    let a = c.args in
    admitted_zero a.shape.width a.shape.size a.shape.oldest a.stay a.kept a.first a.count c.staying-n.result
    c.reduce-any.result a.mem.now a.work.now c.reduce-any.new.work c.requires.0
    (λ i. (c.type_inv.mem i).fits) c.requires.1
    (λ i. ((goal.at.returns-then-not-any c).After-staying-n.type_inv.work i).fits) (λ i. (c.type_inv.work i).fits)
    c.staying-n.ensures c.reduce-any.ensures.0 c.reduce-any.ensures.1 c.if-kept-eq0.true
    c.if-not-any.true

pub returns-else-kept-eq0 : goal.returns-else-kept-eq0
returns-else-kept-eq0 c =
    let a = c.args in
    let within = c.reduce_within in
    let settled = c.settle in
    admitted a.shape.width a.shape.size a.shape.oldest a.stay a.kept a.first a.count c.staying-n.result
    settled.result a.mem.now a.work.now c.reduce-any.new.work within.new.work settled.new.work c.requires.0
    (λ i. (c.type_inv.mem i).fits) c.requires.1
    (λ i. ((goal.at.returns-else-kept-eq0 c).After-staying-n.type_inv.work i).fits) c.staying-n.ensures c.reduce-any.ensures.0 within.ensures
    settled.ensures
