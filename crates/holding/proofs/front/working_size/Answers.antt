-- `holding::front::working_size` meets its contract: one row more than a receiver needs, and a byte for it.
use Rattle.std.specs.Prelude.{◌+◌, ◌*◌, ◌≡◌}
use Rattle.words.specs.Words.{arith, ℕ, suc-mul, add-one}
use Rattle.wire.specs.declared.Setting.{Setting}
use Rattle.history.specs.History.{memory_size, working_size}
use Rattle.table.specs.Window.{stride}
use Rattle.holding.proofs.Headers.{working_area}
use Rattle.holding.proofs.front.working_size.Goals as goal
use Rattle.holding.proofs.front.working_size.Goals.{After-stride}

-- The sum of what was found.
sum : (s : Setting) (a b : ℕ) → a ≡ memory_size s → b ≡ stride s.width s.size → a + b + 1 ≡ working_size s
unfolding stride
sum s a b e f =
    let k : ℕ = s.width + s.size + 4 in
    let more : (s.width + 1) * k ≡ s.width * k + k = rw add-one (suc-mul s.width k) in
    omega (arith, e, f, more)

total : (c : After-stride) → c.memory_size.result + c.stride.result + 1 ≡ working_size c.args.setting
total c =
    let rows = c.rows_of.ensures in
    sum c.args.setting _ _ c.memory_size.ensures (rw (rows.0, rows.1) at c.stride.ensures)

pub overflow_add-result : goal.overflow_add-result
overflow_add-result c = omega (arith, working_area _ c.requires, total c, c.requires.width_most)

pub overflow_add-result-2 : goal.overflow_add-result-2
overflow_add-result-2 c = omega (arith, working_area _ c.requires, total c, c.requires.width_most)

pub returns : goal.returns
returns c = total c
