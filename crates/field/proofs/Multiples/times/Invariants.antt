-- `field::Multiples::times` meets its contract. The loop's invariant: what is summed, and the multiples that the digits left choose, are the product.
use Rattle.std.specs.Prelude.{◌≡◌}
use Rattle.words.specs.Words.{bit_xor, drop}
use Rattle.field.specs.Gf256.{product}
use Rattle.field.proofs.Linear.{chosen}
use Rattle.field.proofs.Multiples.times.Given as goal

abbrev pub invariant-loop-m : goal.invariant-loop-m
invariant-loop-m l = bit_xor l.sum (chosen (drop l.m-index l.m-items) l.digits) ≡ product l.fn.self l.fn.other.0
