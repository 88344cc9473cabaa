-- `lines::byte_of` meets its contract.
use Rattle.words.specs.Words.{arith}
use Rattle.lines.proofs.Digits.{paired}
use Rattle.lines.proofs.byte_of.Goals as goal

pub overflow_sub-values : goal.overflow_sub-values
overflow_sub-values c = let p = paired c.args.high c.args.low c.requires.0 c.requires.1 in omega arith

pub overflow_sub-values-2 : goal.overflow_sub-values-2
overflow_sub-values-2 c = let p = paired c.args.high c.args.low c.requires.0 c.requires.1 in omega arith

pub overflow_cast-result : goal.overflow_cast-result
overflow_cast-result c = let p = paired c.args.high c.args.low c.requires.0 c.requires.1 in omega arith

pub returns : goal.returns
returns c = let p = paired c.args.high c.args.low c.requires.0 c.requires.1 in omega arith
