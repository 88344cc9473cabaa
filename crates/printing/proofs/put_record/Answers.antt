-- `printing::put_record` meets its contract. Each field is put where the one before it ends, which leaves room for the rest.
use Rattle.words.specs.Words.{arith}
use Rattle.text.specs.Text.{ascii}
use Rattle.printing.specs.Printed.{record_line}
use Rattle.printing.proofs.Laws.{put_then, put_room}
use Rattle.printing.proofs.put_record.Goals as goal

pub put_field-second-requires : goal.put_field-second-requires
put_field-second-requires c = omega (arith, put_room (ascii "n=") _ c.put_field-first.ensures (omega arith))

pub put_field-third-requires : goal.put_field-third-requires
put_field-third-requires c =
    omega (
      arith,
      put_room (ascii "n=") _ c.put_field-first.ensures (omega arith),
      put_room (ascii " answer=") _ c.put_field-second.ensures (omega arith),
    )

pub put_text-requires : goal.put_text-requires
put_text-requires c =
    omega (
      arith,
      put_room (ascii "n=") _ c.put_field-first.ensures (omega arith),
      put_room (ascii " answer=") _ c.put_field-second.ensures (omega arith),
      put_room (ascii " known=") _ c.put_field-third.ensures (omega arith),
    )

pub returns : goal.returns
unfolding record_line
returns c =
    put_then c.put_field-first.ensures (put_then c.put_field-second.ensures (put_then c.put_field-third.ensures c.put_text.ensures))
