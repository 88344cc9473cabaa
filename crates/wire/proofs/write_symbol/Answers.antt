-- `wire::write_symbol` meets its contract: the first symbol by its stores, a later one by a copy.
use Rattle.words.specs.Words.{arith, length}
use Rattle.wire.proofs.Adui.{symbol_start_lem, first-written, later_written}
use Rattle.wire.proofs.write_symbol.Goals as goal

pub returns-then-i-eq0 : goal.returns-then-i-eq0
returns-then-i-eq0 c =
    let a = c.args in
    first-written a.dst.now a.adu.now a.flow a.i (omega arith) (omega arith) _ _
    c.if-i-eq0.true
    c.store_u16.ensures
    c.copy_padded.ensures

-- what is known past the first symbol
pub overflow_mul-from : goal.overflow_mul-from
overflow_mul-from c =
    let a = c.args in
    omega (arith, symbol_start_lem a.flow a.adu.now (length a.dst.now) (omega arith) a.i (omega arith))

pub copy_padded-requires-2 : goal.copy_padded-requires-2
copy_padded-requires-2 c =
    let a = c.args in
    (omega arith, omega (arith, symbol_start_lem a.flow a.adu.now (length a.dst.now) (omega arith) a.i (omega arith)))

pub returns : goal.returns
returns c =
    let a = c.args in
    later_written a.dst.now a.adu.now a.flow a.i (omega arith) (omega arith) _
    c.if-i-eq0.false
    c.copy_padded-2.ensures
