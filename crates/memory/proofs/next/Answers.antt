-- `memory::next` meets its contract.
use Rattle.std.specs.Prelude.{◌%◌}
use Rattle.words.specs.Words.{arith, ◌∙◌, sym, ap, mod-eq_of_lt}
use native.Mathlib.Nat.{mod_self}
use Rattle.memory.proofs.next.Goals as goal

pub returns-then-r-w : goal.returns-then-r-w
returns-then-r-w c = let a = c.args in (sym (ap (λ k. k % a.w) c.if-r-w.true ∙ mod_self a.w), omega arith)

pub returns-else-r-w : goal.returns-else-r-w
returns-else-r-w c = let a = c.args in (sym (mod-eq_of_lt (omega arith)), omega arith)
