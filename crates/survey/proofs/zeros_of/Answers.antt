-- `survey::zeros_of` meets its contract: what is left of the draws are the zeros.
use Rattle.std.specs.Prelude.{◌≡◌, ◌+◌, ◌-◌}
use Rattle.std.specs.Option.{unwrap_or}
use Rattle.words.specs.Words.{arith, ℕ, List, ne_eqb, eq-eqb}
use Rattle.coefficients.specs.declared.Coefficient.{Coefficient}
use Rattle.coefficients.specs.Coefficients.{byte_of}
use Rattle.survey.specs.Survey.{zeros_of}
use Rattle.survey.proofs.Laws.{first, last, row_of}
use Rattle.survey.proofs.zeros_of.Goals as goal
use Rattle.survey.proofs.zeros_of.Goals.{Joined-dt-eq15, then-dt-eq15, else-dt-eq15, then-unwrap_or-eq0, else-unwrap_or-eq0}

-- the draws: rand16, the zeros, and the byte that is not zero
draws : (dt : ℕ) (s : List ℕ) (c : Coefficient) → c ≡ byte_of dt s → c.draws ≡ first dt + (zeros_of dt s + last (unwrap_or c.value 0))
draws dt s c e = rw e (row_of dt s).draws

-- without rand16
bytes : (p : Joined-dt-eq15) → p.if-dt-eq15.bytes ≡ zeros_of p.args.dt p.args.s + last (unwrap_or p.next_coefficient-c.result.value 0)
bytes p =
    let d = draws p.args.dt p.args.s _ p.next_coefficient-c.ensures in
    elim p.if-dt-eq15.branch [
      | then-dt-eq15 w ↦ omega (arith, w.bytes-is, rw (eq-eqb _ _ w.if-dt-eq15.true) at d)
      | else-dt-eq15 w ↦ omega (arith, w.bytes-is, rw (ne_eqb _ _ w.if-dt-eq15.false) at d)
    ]

pub overflow_sub-bytes : goal.overflow_sub-bytes
overflow_sub-bytes c =
    let d = draws c.args.dt c.args.s _ c.next_coefficient-c.ensures in
    omega (arith, rw (ne_eqb _ _ c.if-dt-eq15.false) at d)

pub overflow_sub-zeros : goal.overflow_sub-zeros
overflow_sub-zeros c =
    let b = bytes (goal.at.overflow_sub-zeros c).Joined-dt-eq15 in
    omega (arith, rw (← c.unwrap_or.ensures, ne_eqb _ _ c.if-unwrap_or-eq0.false) at b)

pub returns : goal.returns
returns c =
    let b = bytes (goal.at.returns c).Joined-dt-eq15 in
    let z : c.if-unwrap_or-eq0.zeros ≡ zeros_of c.args.dt c.args.s =
    elim c.if-unwrap_or-eq0.branch [
      | then-unwrap_or-eq0 w ↦ omega (arith, w.zeros-is, rw (← c.unwrap_or.ensures, eq-eqb _ _ w.if-unwrap_or-eq0.true) at b)
      | else-unwrap_or-eq0 w ↦ omega (arith, w.zeros-is, rw (← c.unwrap_or.ensures, ne_eqb _ _ w.if-unwrap_or-eq0.false) at b)
    ] in
    rw (z, c.next_coefficient-c.ensures)
