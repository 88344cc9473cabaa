-- `block_receiver::take::insert` meets its contract.
use Rattle.words.specs.Words.{arith}
use Rattle.block_receiver.proofs.Taking.{admitted_as, works_as, committed_as, inserted_kept, inserted_implied, inserted_contradicts}
use Rattle.block_receiver.proofs.take.insert.Goals as goal

pub admit-requires : goal.admit-requires
admit-requires c =
    let (f, w, o) = c.requires in
    (f, w, omega (arith, o, f.some_width), f.some_width, omega arith)

pub commit-requires : goal.commit-requires
commit-requires c =
    let (f, w, o) = c.requires in
    (f, omega (arith, o, f.some_width), works_as c.in-Kept.is c.admit.ensures.works)

pub returns-in-Kept : goal.returns-in-Kept
returns-in-Kept c =
    let (f, w, o) = c.requires in
    inserted_kept _ _ _ _ _ w _ _ (admitted_as o c.in-Kept.is c.admit.ensures) (committed_as o c.commit.ensures)

pub returns-in-Implied : goal.returns-in-Implied
returns-in-Implied c =
    let (f, w, o) = c.requires in
    inserted_implied _ _ _ _ _ w (admitted_as o c.in-Implied.is c.admit.ensures)

pub returns-in-Contradiction : goal.returns-in-Contradiction
returns-in-Contradiction c =
    let (f, w, o) = c.requires in
    inserted_contradicts _ _ _ _ _ w (admitted_as o c.in-Contradiction.is c.admit.ensures)
