-- `table::row_offset` meets its contract.
use Rattle.std.specs.Prelude.{◌≡◌, ◌≤◌, ◌+◌, ◌*◌}
use Rattle.words.specs.Words.{arith, ℕ, ap}
use Rattle.memory.proofs.Parts.{row_fits}
use Rattle.table.specs.declared.Shape.{Shape}
use Rattle.table.specs.Window.{header_size, stride, row_offset}
use Rattle.table.proofs.Offsets.{flags_fit, small_row}
use Rattle.table.proofs.row_offset.Goals as goal
use Rattle.table.proofs.row_offset.Goals.{After-stride}

-- The row's number times its stride, as the code has it, and the bound of what it begins at.
module _ (c : After-stride) where
  abbrev s : Shape
  s = c.args.shape

  abbrev r : ℕ
  r = c.args.r

  product : r * c.stride.result ≡ r * stride s.width s.size
  product = ap (λ n. r * n) c.stride.ensures

  bound : row_offset s.width s.size r ≤ 450000
  bound = small_row s.width s.size r (omega arith) (omega arith)

pub overflow_mul-result : goal.overflow_mul-result
overflow_mul-result c = omega (arith, product (goal.at.overflow_mul-result c).After-stride, bound (goal.at.overflow_mul-result c).After-stride)

pub overflow_add-result : goal.overflow_add-result
unfolding header_size
overflow_add-result c = omega (arith, product (goal.at.overflow_add-result c).After-stride, bound (goal.at.overflow_add-result c).After-stride)

pub returns : goal.returns
unfolding header_size
returns c =
    let p = (goal.at.returns c).After-stride in
    let f = row_fits ((s p).width + 1) (stride (s p).width (s p).size) (r p) (omega arith) in
    record {
      start = omega (arith, product p);
      end = omega (arith, product p, f);
      wide = flags_fit _ _;
      small = omega (arith, product p, bound p);
    }
