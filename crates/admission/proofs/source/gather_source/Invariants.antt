-- `admission::source::gather_source` meets its contract.
use Rattle.std.specs.Prelude.{◌≤◌, ◌-◌}
use Rattle.words.specs.Words.{length, Some}
use Rattle.wire.specs.Packets.{symbol_count}
use Rattle.admission.specs.Steps.{Gathers}
use Rattle.admission.specs.SourceSteps.{equation_of}
use Rattle.admission.proofs.source.gather_source.Given as goal

abbrev pub invariant-loop-i : goal.invariant-loop-i
invariant-loop-i l =
    (l.i ≤ l.count) × Gathers l.location (symbol_count l.location.shape.size (length l.adu))
    (equation_of l.location.shape.width l.location.shape.size l.flow l.adu) l.i (Some l.kept) l.mem l.initial.work l.work

abbrev pub decreases-loop-i : goal.decreases-loop-i
decreases-loop-i l = l.count - l.i
