-- `interpolation::fill` meets its contract: the coefficients of a source symbol are 1 for itself and 0 for the others.
use Rattle.std.specs.Prelude.{◌≡◌}
use Rattle.words.specs.Words.{arith, length, replicate, rules}
use Rattle.interpolation.proofs.Filling.{filled_source}
use Rattle.interpolation.proofs.fill.Goals as goal

pub returns-then-esi-out : goal.returns-then-esi-out
returns-then-esi-out c =
    let zeros : c.fill.new.self ≡ replicate (length c.args.out.now) 0 = search rules in
    filled_source (length c.args.out.now) c.args.esi c.fill.new.self c.requires.1 (omega arith) zeros
