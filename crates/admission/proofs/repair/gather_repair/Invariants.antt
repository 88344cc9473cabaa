-- `admission::repair::gather_repair` meets its contract. The loop: working memory keeps `kept` rows of the first i equations.
use Rattle.words.specs.Words.{Some}
use Rattle.std.specs.Prelude.{◌≤◌, ◌-◌}
use Rattle.admission.specs.Steps.{Gathers}
use Rattle.admission.specs.RepairSteps.{equation_at}
use Rattle.admission.proofs.repair.gather_repair.Given as goal

abbrev pub invariant-loop-i : goal.invariant-loop-i
invariant-loop-i l =
    (l.i ≤ l.count) × Gathers l.location l.n
    (equation_at l.location.shape.width l.location.shape.size l.n l.lists l.packet) l.i (Some l.kept) l.mem l.initial.work l.work

abbrev pub decreases-loop-i : goal.decreases-loop-i
decreases-loop-i l = l.count - l.i
