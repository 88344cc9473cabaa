-- `field::tables::logarithm` meets its contract, by the rule of the table.
use Rattle.std.specs.Prelude.{◌-◌}
use Rattle.words.specs.Words.{arith, ℕ, List, get_or}
use mathlib.Core.Path.{subst⁻¹}
use Rattle.field.specs.Logarithm.{IsLogarithm}
use Rattle.field.proofs.Laws.{logarithms_at}
use Rattle.field.proofs.Listed.{logarithms_listed}
use Rattle.field.proofs.tables.logarithm.Goals as goal

pub returns : goal.returns
returns c =
    subst⁻¹ (λ (l : List ℕ). IsLogarithm c.args.x (get_or l (c.args.x - 1) 0)) logarithms_listed
    (logarithms_at c.args.x c.requires (omega arith))
