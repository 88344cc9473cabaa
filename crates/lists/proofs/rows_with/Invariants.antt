-- `lists::rows_with` meets its contract. The loop: of the first k rows those with the pair of digits are listed.
use Rattle.std.specs.Prelude.{◌≡◌}
use Rattle.words.specs.Words.{length}
use Rattle.lists.specs.Digits.{pair_is}
use Rattle.lists.specs.Named.{Listed}
use Rattle.lists.proofs.rows_with.Given as goal

abbrev pub invariant-loop-k : goal.invariant-loop-k
invariant-loop-k l = Listed (pair_is l.cs l.e l.v) l.k l.n l.list × (length l.list ≡ 64)
