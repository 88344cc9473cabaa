-- `coefficients::fill` meets its contract: all ones, or what `draw_list` promises.
use Rattle.std.specs.Prelude.{◌≡◌}
use Rattle.words.specs.Words.{refl, sym}
use Rattle.std.proofs.Common.{rules}
use denote.Enum.Bare.{same_true}
use Rattle.wire.specs.declared.Scheme.TheVariants.{Gf2}
use Rattle.wire.specs.contracts.Scheme.{the_type}
use Rattle.coefficients.proofs.Fills.{fills_ones}
use Rattle.coefficients.proofs.fill.Goals as goal

pub returns-then-dt-eq15 : goal.returns-then-dt-eq15
returns-then-dt-eq15 c =
    let e : c.args.scheme ≡ Gf2 = same_true the_type (search rules) _ _ (sym c.if-eq.ensures) in
    fills_ones _ _ _ _ _ e c.if-dt-eq15.true c.fill.ensures.len (λ i h. c.fill.ensures.clones i 0 h refl)
