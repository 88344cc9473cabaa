-- `lists::rows_with` meets its contract. The loop: of the first k rows those with the pair of digits are listed.
use Rattle.words.specs.Words.{arith, rules, sym}
use Rattle.lists.specs.Digits.{pair_is}
use Rattle.lists.proofs.Digits.{pair_bit}
use Rattle.lists.proofs.Named.{listed-none, listed_turn}
use Rattle.lists.proofs.rows_with.Goals as goal

pub loop-k-init : goal.loop-k-init
loop-k-init c = (listed-none _ _, search rules)

pub loop-k-preserved : goal.loop-k-preserved
unfolding pair_is
loop-k-preserved c =
    let a = c.args in
    let t = c.loop-k in (
      listed_turn (pair_is a.cs.now a.e a.v) t.k t.n c.is_pair-n.result t.list t.invariant.0 (sym c.is_pair-n.ensures)
          (omega (arith, c.is_pair-n.ensures, pair_bit a.cs.now a.e a.v t.k)) (omega (arith, t.invariant.0.few)),
      search rules,
    )
