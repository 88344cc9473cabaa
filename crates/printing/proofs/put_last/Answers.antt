-- `printing::put_last` meets its contract. Each field is put where the one before it ends, which leaves room for the rest.
use Rattle.words.specs.Words.{arith}
use Rattle.text.specs.Text.{ascii}
use Rattle.printing.specs.Printed.{last_line}
use Rattle.printing.proofs.Laws.{put_then, put_room}
use Rattle.printing.proofs.put_last.Goals as goal

pub put_field-second-requires : goal.put_field-second-requires
put_field-second-requires c = omega (arith, put_room (ascii "lines=") _ c.put_field-first.ensures (omega arith))

pub put_field-third-requires : goal.put_field-third-requires
put_field-third-requires c =
    omega (
      arith,
      put_room (ascii "lines=") _ c.put_field-first.ensures (omega arith),
      put_room (ascii " accepted=") _ c.put_field-second.ensures (omega arith),
    )

pub put_field-fourth-requires : goal.put_field-fourth-requires
put_field-fourth-requires c =
    omega (
      arith,
      put_room (ascii "lines=") _ c.put_field-first.ensures (omega arith),
      put_room (ascii " accepted=") _ c.put_field-second.ensures (omega arith),
      put_room (ascii " refused=") _ c.put_field-third.ensures (omega arith),
    )

pub put_text-requires : goal.put_text-requires
put_text-requires c =
    omega (
      arith,
      put_room (ascii "lines=") _ c.put_field-first.ensures (omega arith),
      put_room (ascii " accepted=") _ c.put_field-second.ensures (omega arith),
      put_room (ascii " refused=") _ c.put_field-third.ensures (omega arith),
      put_room (ascii " known=") _ c.put_field-fourth.ensures (omega arith),
    )

pub returns : goal.returns
unfolding last_line
returns c =
    put_then c.put_field-first.ensures
    (put_then c.put_field-second.ensures (put_then c.put_field-third.ensures (put_then c.put_field-fourth.ensures c.put_text.ensures)))
