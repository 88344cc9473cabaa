-- `field::tables::power` meets its contract, by the rule of the table.
use Rattle.std.specs.Prelude.{◌%◌}
use Rattle.words.specs.Words.{arith, ℕ, List, ◌∙◌, get_or, ap₂}
use Rattle.field.proofs.Laws.{doublings_at, power_reduced}
use Rattle.field.proofs.Listed.{powers_listed}
use Rattle.field.proofs.tables.power.Goals as goal

pub returns : goal.returns
returns c =
    let e = c.args.exponent in
    ap₂ (λ (l : List ℕ) (k : ℕ). get_or l k 0) powers_listed c.reduced.ensures ∙ doublings_at 255 (e % 255) (omega arith) ∙ power_reduced e
