-- `admission::repair::gather_repair` meets its contract. The loop: working memory keeps `kept` rows of the first i equations.
use Rattle.std.specs.Prelude.{◌<◌, ◌≤◌, ◌+◌, ◌*◌}
use Rattle.words.specs.Words.{arith, ℕ, List, length}
use Rattle.memory.proofs.Parts.{cut, length_part, row_fits}
use Rattle.admission.specs.Steps.{Admits}
use Rattle.admission.specs.RepairSteps.{equation_at}
use Rattle.admission.proofs.Gathering.{gathers_none, gathers_on, gathers_stop, gathers_all}
use Rattle.admission.proofs.Repairing.{symbol_of_index}
use Rattle.admission.proofs.repair.gather_repair.Goals as goal
use Rattle.admission.proofs.repair.gather_repair.Goals.{After-admit_symbol}

-- List i lies in the lists.
within : (i count n : ℕ) (l : List ℕ) → i < count → count * n ≤ length l → i * n + n ≤ length l
within i count n l t p = omega (arith, row_fits count n i t, p)

-- What the loop's body did, of list i and symbol i.
one : (c : After-admit_symbol)
    → let a = c.args in
    let l = c.loop-i in
    let s = a.location.shape in
    Admits a.location a.n (λ d. equation_at s.width s.size a.n a.lists.now a.packet.now d l.i) l.kept
    c.admit_symbol.result a.mem.now l.work c.admit_symbol.new.work
one c =
    let a = c.args in
    let l = c.loop-i in
    let i = l.i in
    let size = a.location.shape.size in
    symbol_of_index a.location l.kept a.n i _ a.lists.now a.packet.now a.mem.now l.work _ _ (cut (i * a.n) a.n a.lists.now)
    (rw (cut (i * a.n) a.n a.lists.now)
    (length_part (i * a.n) a.n a.lists.now (within i a.count a.n a.lists.now c.loop-i-test.true c.requires.5)))
    (rw (cut (8 + i * size) size a.packet.now) at c.admit_symbol.ensures)

pub loop-i-init : goal.loop-i-init
loop-i-init c =
    let a = c.args in (
      omega arith,
      gathers_none a.location a.n
          (equation_at a.location.shape.width a.location.shape.size a.n a.lists.now a.packet.now) a.mem.now a.work.now c.requires.1,
    )

pub returns-in_err-kept : goal.returns-in_err-kept
returns-in_err-kept c =
    let a = c.args in
    let l = c.loop-i in
    rw c.from_residual.ensures
    (gathers_stop _ _ _ _ _ l.i a.count l.kept c.admit_symbol.result l.work c.admit_symbol.new.work
    (omega (arith, c.loop-i-test.true)) l.invariant.1 (one (goal.at.returns-in_err-kept c).After-admit_symbol) c.in_err-kept.was)

pub loop-i-preserved : goal.loop-i-preserved
loop-i-preserved c =
    let l = c.loop-i in
    let t = c.loop-i-test.true in (
      omega (arith, t),
      gathers_on _ _ _ _ _ l.i l.kept _ c.admit_symbol.result l.work c.admit_symbol.new.work
          l.invariant.1 (one (goal.at.loop-i-preserved c).After-admit_symbol) c.in_ok-kept.was,
    )

pub returns : goal.returns
returns c = let l = c.loop-i in gathers_all _ _ _ _ _ l.i _ l.kept l.work (omega arith) l.invariant.1
