-- `replay::count` meets its contract.
use Rattle.words.specs.Words.{arith, refl}
use Rattle.replay.proofs.Ending.{counted, fault_none}
use Rattle.replay.proofs.count.Goals as goal

pub returns-in-Ok : goal.returns-in-Ok
returns-in-Ok c =
    rw c.in-Ok.is (counted c.args.p _ _ 1 refl refl refl (λ h. omega arith) (λ h. omega arith) (λ h. omega arith) (λ h. omega arith))

pub returns-in-Err : goal.returns-in-Err
returns-in-Err c =
    rw c.in-Err.is (counted c.args.p _ _ 0 (fault_none _) refl refl (λ h. omega arith) (λ h. omega arith) (λ h. omega arith) (λ h. omega arith))
