-- `handing::copy_adu` meets its contract. The loop: the ADU's bytes of the symbols before the i-th have been copied.
use Rattle.std.specs.Prelude.{◌≡◌}
use Rattle.words.specs.Words.{arith, length, rules}
use Rattle.handing.proofs.Copying.{span_some, copied_none, copied_length, copied_all, copied_more}
use Rattle.handing.proofs.copy_adu.Goals as goal
use Rattle.handing.proofs.copy_adu.Goals.{At-loop-i}

same : (p : At-loop-i) → length p.loop-i.out ≡ length p.args.out.now
same p =
    let s = p.requires in
    copied_length _ _ _ _ _ _ _ _ _ _ _ _ s.0 s.2 s.3 p.loop-i.invariant

pub loop-i-init : goal.loop-i-init
loop-i-init c = let s = c.requires in copied_none _ _ _ _ _ (span_some _ _ _ _ _ s.0.some_symbol s.2)

pub overflow_sub-shape : goal.overflow_sub-shape
overflow_sub-shape c = omega (arith, c.loop-i.invariant.skips, c.requires.0.some_symbol)

pub overflow_sub-len : goal.overflow_sub-len
overflow_sub-len c = omega (arith, c.loop-i.invariant.most, same (goal.at.overflow_sub-len c).At-loop-i, c.requires.3)

pub symbol_of-from-requires : goal.symbol_of-from-requires
symbol_of-from-requires c = (search rules, omega (arith, c.requires.2.within), search rules, search rules)

pub overflow_add-from : goal.overflow_add-from
overflow_add-from c = omega (arith, c.symbol_of-from.ensures.small, c.loop-i.invariant.skips)

pub copy_part-requires : goal.copy_part-requires
copy_part-requires c =
    let s = c.requires in
    let done = c.loop-i.invariant in
    let k = c.min-k.ensures in
    (omega (arith, same (goal.at.copy_part-requires c).At-loop-i, k, done.most), omega (arith, c.symbol_of-from.ensures.end, s.0.room, k, done.skips))

pub overflow_add-at : goal.overflow_add-at
overflow_add-at c =
    omega (arith, c.loop-i.invariant.most, c.min-k.ensures, c.requires.2.short)

pub loop-i-preserved : goal.loop-i-preserved
loop-i-preserved c =
    let s = c.requires in
    let symbol = c.symbol_of-from in
    let k = c.min-k in
    copied_more _ _ _ _ _ _ _ _ _ _ _ _ s.0 s.2 s.3 c.loop-i.invariant (omega arith) k.result k.ensures symbol.result
    symbol.ensures.start _ c.copy_part.ensures

pub returns : goal.returns
returns c = let s = c.requires in copied_all _ _ _ _ _ _ _ _ _ _ _ _ s.0 s.2 s.3 c.loop-i.invariant (omega arith)
