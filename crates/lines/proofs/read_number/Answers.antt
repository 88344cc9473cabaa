-- `lines::read_number` meets its contract: each way out goes by the line's first byte.
use Rattle.std.specs.Prelude.{◌≡◌, ◌≤◌}
use Rattle.words.specs.Words.{arith, length, refl, false, get_or, sym}
use Rattle.std.proofs.lemmas.Bool.Decides.{nat_tests}
use Rattle.lines.specs.Reading.{is_digit}
use Rattle.lines.proofs.Numbers.{zero-read, begun, no_number, number_ends}
use Rattle.lines.proofs.read_number.Goals.{in_default-via-then-line-lt1, in_default-via-else-line-lt1+in_default+then-line-lt48}
use Rattle.lines.proofs.read_number.Goals.{in_default-via-else-line-lt1+in_default+else-line-lt48+else-line-lt58}
use Rattle.lines.proofs.read_number.Goals as goal

pub returns-in-48 : goal.returns-in-48
returns-in-48 c = number_ends 1 (zero-read c.args.most c.args.line.now (omega arith) (omega arith)) (omega arith) refl

pub returns-in-48-to-57 : goal.returns-in-48-to-57
returns-in-48-to-57 c = begun (omega arith) (λ e. omega arith) (omega arith) (omega arith) c.read_digits.ensures

pub returns-in_default : goal.returns-in_default
returns-in_default c = record { number = sym (no_number c.args.most c.args.line.now h); small = tt }
  where
    h : 1 ≤ length c.args.line.now → is_digit (get_or c.args.line.now 0 0) ≡ false
    h =
        elim c.in_default.branch [
          | in_default-via-then-line-lt1 w ↦ λ l. absurd (grind (arith, nat_tests))
          | in_default-via-else-line-lt1+in_default+then-line-lt48 w ↦ λ l. grind (arith, nat_tests)
          | in_default-via-else-line-lt1+in_default+else-line-lt48+else-line-lt58 w ↦ λ l. grind (arith, nat_tests)
        ]
