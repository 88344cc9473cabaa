-- `printing::put_field` meets its contract.
use Rattle.words.specs.Words.{arith}
use Rattle.text.proofs.Decimals.{decimal-length}
use Rattle.printing.proofs.Laws.{put_then}
use Rattle.printing.proofs.put_field.Goals as goal

pub put_decimal-requires : goal.put_decimal-requires
put_decimal-requires c = omega (arith, decimal-length c.args.n (omega arith))

pub returns : goal.returns
returns c =
    put_then c.put_text-next.ensures c.put_decimal.ensures
