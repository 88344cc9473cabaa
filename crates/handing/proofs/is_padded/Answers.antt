-- `handing::is_padded` meets its contract.
use Rattle.std.specs.Prelude.{◌+◌, ◌<◌, ◌-◌, ◌*◌}
use Rattle.words.specs.Words.{arith, rules}
use Rattle.handing.proofs.Copying.{span_some, span_start, span_last, padding_test}
use Rattle.handing.proofs.is_padded.Goals as goal
use Rattle.handing.proofs.is_padded.Goals.{Start}

some : (p : Start) → 0 < p.args.n
some p = span_some _ _ _ _ _ p.requires.0.some_symbol p.requires.2

before : (p : Start) → (p.args.n - 1) * p.args.shape.size < 3 + p.args.len
before p = span_start _ _ _ _ _ p.requires.0.some_symbol p.requires.2 _ (omega (arith, some p))

pub overflow_sub-before : goal.overflow_sub-before
overflow_sub-before c = omega (arith, some (goal.at.overflow_sub-before c).Start)

pub overflow_mul-before : goal.overflow_mul-before
overflow_mul-before c = omega (arith, before (goal.at.overflow_mul-before c).Start, c.requires.2.short)

pub overflow_sub-n : goal.overflow_sub-n
overflow_sub-n c = omega (arith, some (goal.at.overflow_sub-n c).Start)

pub symbol_of-last-requires : goal.symbol_of-last-requires
symbol_of-last-requires c =
    (search rules, omega (arith, some (goal.at.symbol_of-last-requires c).Start, c.requires.2.within), search rules, search rules)

pub overflow_sub-len : goal.overflow_sub-len
overflow_sub-len c = omega (arith, before (goal.at.overflow_sub-len c).Start)

pub or_all-requires : goal.or_all-requires
or_all-requires c =
    let p = c.requires in
    let last = span_last _ _ _ _ _ p.0.some_symbol p.2 in
    (omega (arith, last), omega (arith, c.symbol_of-last.ensures.end, p.0.room))

pub returns : goal.returns
returns c =
    let p = c.requires in
    padding_test _ _ _ _ _ _ _ p.0 p.2 _ _ c.symbol_of-last.ensures.start c.or_all.ensures
