-- `sums::holds_strip` meets its contract.
use Rattle.std.specs.Prelude.{◌-◌}
use Rattle.words.specs.Words.{arith, leb-true}
use Rattle.sums.proofs.holds_strip.Goals as goal

pub returns : goal.returns
returns c =
    let a = c.args in
    λ e. omega (arith, leb-true (64 - a.n) a.a e)
