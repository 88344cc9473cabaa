-- `lines::is_hexadecimal` meets its contract.
use Rattle.words.specs.Words.{arith}
use Rattle.std.proofs.lemmas.Bool.Decides.{nat_tests}
use Rattle.lines.proofs.Digits.{digits-named}
use Rattle.lines.proofs.is_hexadecimal.Goals as goal

pub returns-in-48-to-57 : goal.returns-in-48-to-57
returns-in-48-to-57 c = rw digits-named (grind (arith, nat_tests))

pub returns-in-48-to-57-2 : goal.returns-in-48-to-57-2
returns-in-48-to-57-2 c = rw digits-named (grind (arith, nat_tests))

pub returns-in_default : goal.returns-in_default
returns-in_default c = rw digits-named (grind (arith, nat_tests))

pub returns-in_default-2 : goal.returns-in_default-2
returns-in_default-2 c = rw digits-named (grind (arith, nat_tests))

pub returns-in_default-3 : goal.returns-in_default-3
returns-in_default-3 c = rw digits-named (grind (arith, nat_tests))
