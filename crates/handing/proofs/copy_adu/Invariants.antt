-- `handing::copy_adu` meets its contract. The loop: the ADU's bytes of the symbols before the i-th have been copied.
use Rattle.handing.specs.HandSteps.{text}
use Rattle.handing.proofs.Copying.{Copied}
use Rattle.handing.proofs.copy_adu.Given as goal

abbrev pub invariant-loop-i : goal.invariant-loop-i
invariant-loop-i l = Copied l.shape.size l.n l.len l.i l.at l.skip (text l.shape.width l.shape.size l.shape.oldest l.mem l.d l.n) l.initial.out l.out
