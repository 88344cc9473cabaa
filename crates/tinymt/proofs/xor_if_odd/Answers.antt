-- `tinymt::xor_if_odd` meets its contract: each way out rewrites with its test.
use Rattle.words.specs.Words.{ne_eqb, eq-eqb}
use Rattle.tinymt.specs.Generator.{xor_if_odd}
use Rattle.tinymt.proofs.xor_if_odd.Goals as goal

pub returns-then-t-eq1 : goal.returns-then-t-eq1
unfolding xor_if_odd
returns-then-t-eq1 c = simp (eq-eqb _ _ c.if-t-eq1.true)

pub returns-else-t-eq1 : goal.returns-else-t-eq1
unfolding xor_if_odd
returns-else-t-eq1 c = simp (ne_eqb _ _ c.if-t-eq1.false)
