-- `gather::reduce_within` meets its contract. The loop: the pivots of the rows so far are eliminated.
use Rattle.words.specs.Words.{arith, rules, refl, subst}
use Rattle.table.proofs.Offsets.{flags_fit}
use Rattle.gather.specs.GatherSteps.{PacketReduced}
use Rattle.gather.proofs.Framing.{works_only}
use Rattle.gather.proofs.Reducing.{packet-none, packet-more}
use Rattle.gather.proofs.reduce_within.Goals as goal

pub loop-j-init : goal.loop-j-init
loop-j-init c =
    let a = c.args in
    (search rules, packet-none a.shape.width a.shape.size a.k a.work.now, c.requires, (λ i. (c.type_inv.work i).fits), refl)

pub eliminate-requires : goal.eliminate-requires
eliminate-requires c = (c.loop-j.invariant.2, search rules)

pub loop-j-preserved : goal.loop-j-preserved
loop-j-preserved c =
    let a = c.args in
    let turn = c.loop-j in
    let done = c.eliminate in
    let more = packet-more a.shape.width a.shape.size a.k a.work.now turn.j turn.work done.new.work (omega arith) turn.invariant.2
    turn.invariant.3 turn.invariant.1 done.ensures in (
      search rules,
      more,
      works_only (omega (arith, flags_fit a.shape.width a.shape.size)) more.only c.requires,
      (λ i. (c.type_inv.work i).fits),
      more.only.size,
    )

pub returns : goal.returns
returns c =
    let a = c.args in
    let turn = c.loop-j in
    let all = turn.j in
    subst (λ i. PacketReduced a.shape.width a.shape.size a.k i a.work.now turn.work) (omega arith) turn.invariant.1
