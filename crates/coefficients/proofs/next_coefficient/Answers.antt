-- `coefficients::next_coefficient` meets its contract: each way out rewrites with its tests, and with the draw.
use Rattle.std.specs.Prelude.{◌≡◌, ◌<◌}
use Rattle.words.specs.Words.{ℕ, List, sym, le-leb, lt-leb, ne_eqb, eq-eqb}
use Rattle.tinymt.specs.Generator.{draw_of, low4}
use Rattle.wire.specs.declared.Scheme.{Scheme}
use Rattle.wire.specs.declared.Scheme.TheVariants.{Gf2, Gf256}
use Rattle.coefficients.specs.Coefficients.{found, bit_of, byte_of, coefficient_of}
use Rattle.coefficients.proofs.next_coefficient.Goals as goal
use Rattle.coefficients.proofs.next_coefficient.Goals.{then-dt-ne15+else-rand16-dt, else-dt-ne15}

-- rand16 above the density threshold says zero
zero : (scheme : Scheme) (dt : ℕ) (s : List ℕ) → (dt ≡ 15 → ⊥) → dt < low4 (draw_of s).value → coefficient_of scheme dt s ≡ found 0 1 (draw_of s).state
unfolding bit_of byte_of
zero Gf2 dt s n h = rw (ne_eqb _ _ n, lt-leb _ _ h)
zero Gf256 dt s n h = rw (ne_eqb _ _ n, lt-leb _ _ h)

pub returns-then-rand16-dt : goal.returns-then-rand16-dt
returns-then-rand16-dt c =
    let v = rw c.draw-first.ensures at c.rand16.ensures in
    rw c.draw-first.ensures (sym (zero c.args.scheme c.args.dt _ c.if-dt-ne15.true (rw v at c.if-rand16-dt.true)))

pub returns-in-Gf2 : goal.returns-in-Gf2
unfolding bit_of
returns-in-Gf2 c =
    rw c.in-Gf2.is
    (elim c.if-dt-ne15.branch [
      | then-dt-ne15+else-rand16-dt w ↦
          let v = rw w.draw-first.ensures at w.rand16.ensures in
          rw (w.draws-is, w.state-is, w.draw-first.ensures, ne_eqb _ _ w.if-dt-ne15.true, le-leb _ _ (rw v at w.if-rand16-dt.false))
      | else-dt-ne15 w ↦ rw (w.draws-is, w.state-is, eq-eqb _ _ w.if-dt-ne15.false)
    ])

pub returns-in-Gf256 : goal.returns-in-Gf256
unfolding byte_of
returns-in-Gf256 c =
    rw (c.in-Gf256.is, c.nonzero.ensures)
    (elim c.if-dt-ne15.branch [
      | then-dt-ne15+else-rand16-dt w ↦
          let v = rw w.draw-first.ensures at w.rand16.ensures in
          rw (w.draws-is, w.state-is, w.draw-first.ensures, ne_eqb _ _ w.if-dt-ne15.true, le-leb _ _ (rw v at w.if-rand16-dt.false))
      | else-dt-ne15 w ↦ rw (w.draws-is, w.state-is, eq-eqb _ _ w.if-dt-ne15.false)
    ])
