-- `answering::keep` meets its contract.
use Rattle.words.specs.Words.{arith, refl}
use Rattle.std.proofs.lemmas.Slice.{take-put_mid}
use Rattle.answering.proofs.Keeping.{kept_over, kept_more}
use Rattle.answering.proofs.keep.Goals.{then-have-gt-LONGEST-via-then-have-gt-LONGEST, then-have-gt-LONGEST-via-else-have-gt-LONGEST+then-have-bytes}
use Rattle.answering.proofs.keep.Goals as goal

pub returns-then-have-gt-LONGEST : goal.returns-then-have-gt-LONGEST
returns-then-have-gt-LONGEST c = λ q k.
    kept_over _ q _ k
    (elim c.then-have-gt-LONGEST.branch [
      | then-have-gt-LONGEST-via-then-have-gt-LONGEST w ↦ omega arith
      | then-have-gt-LONGEST-via-else-have-gt-LONGEST+then-have-bytes w ↦ omega arith
    ])

pub returns : goal.returns
returns c = λ q k.
    let h = c.copy_from_slice.ensures.after in
    let a = c.args in
    rw h (kept_more a.have a.line.now _ q a.bytes.now k (omega arith) (take-put_mid a.have _ a.line.now a.bytes.now _ refl (omega arith)))
