-- Computed from the definitions: document 02's sample, answers of each kind, inputs that end without 0A, bad first lines, and
-- what is taken of a piece.
use Rattle.std.specs.Prelude.{◌≡◌, ◌∷◌}
use Rattle.words.specs.Words.{[], ℕ, List, refl, Some, None, map}
use Prim.Native.String.{String}
use Rattle.history.specs.Computing.{computing}
use Rattle.rows.specs.Combination.{combination}
use Rattle.wire.specs.declared.Scheme.TheVariants.{Gf2, Gf256}
use Rattle.wire.specs.Settings.{in_range, setting_of}
use Rattle.text.specs.Text.{ascii, digit, decimal_within, decimal}
use Rattle.printing.specs.Printed.{record_line, last_line}
use Rattle.lines.specs.Lines.{lines_from}
use Rattle.lines.specs.Reading.{after, number_from, number_in, value_of, bytes_in, values_in, repair_in, source_in, call_in}
use Rattle.records.specs.Records.{total, record_lines, summary}
use Rattle.records.specs.Replay.{records_from, setting_named, printed_with, printed_lines, printed}
use Rattle.records.specs.Standing.{opening, after_line, printed_line}
use Rattle.records.specs.Taking.{taken_of, taken_from}

-- what is printed of a text
abbrev of : String → List ℕ
of t = printed (ascii t)

-- the sample; a last line without 0A, and an empty line; lines that are not of the form, and a packet without a byte (5); a contradiction (11), after
-- which the receiver still stands as it was
pub printings : of "scheme=9 e=4 width=2\nkind=source flow=1 packet=4100000000\nkind=repair packet=0000F0020000000000000003\n"
    ∷ of "scheme=9 e=4 width=2\n\nkind=source flow=1 packet=4100000000"
    ∷ of "scheme=10 e=4 width=1\nkind=source flow=256 packet=4100000000\nkind=repair packet=0f\nscheme=10 e=4 width=1\nkind=repair packet=\n"
    ∷ of "scheme=9 e=4 width=2\nkind=source flow=1 packet=4100000000\nkind=source flow=2 packet=4100000000\nkind=source flow=1 packet=4200000001\n"
    ∷ []
    ≡ ascii "n=1 answer=0 known=1\nn=2 answer=0 known=1\nlines=2 accepted=2 refused=0 known=2\n"
    ∷ ascii "n=1 answer=15 known=0\nn=2 answer=0 known=1\nlines=2 accepted=1 refused=1 known=1\n"
    ∷ ascii "n=1 answer=15 known=0\nn=2 answer=15 known=0\nn=3 answer=15 known=0\nn=4 answer=5 known=0\nlines=4 accepted=0 refused=4 known=0\n"
    ∷ ascii "n=1 answer=0 known=1\nn=2 answer=11 known=0\nn=3 answer=0 known=1\nlines=3 accepted=2 refused=1 known=2\n"
    ∷ []
unfolding
    computing combination in_range setting_of
    digit decimal_within decimal record_line last_line
    lines_from after number_from number_in value_of bytes_in values_in repair_in source_in call_in
    total record_lines summary records_from setting_named printed_with printed_lines
printings = refl

-- first lines that open a receiver: the working memory of the second and third has exactly 65,536 bytes, and no wider window than the fourth fits; and bad
-- ones: values that opening refuses; a working memory of 65,538 bytes, one more than fits for E, twice, and for the width; a leading zero, two blanks, a
-- number past 64 bits, a byte after the form
pub first_lines : map (λ t. setting_named (ascii t))
    ("scheme=9 e=4 width=2" ∷ "scheme=10 e=245 width=159" ∷ "scheme=9 e=734 width=79" ∷ "scheme=9 e=4 width=250"
    ∷ "scheme=8 e=4 width=2" ∷ "scheme=9 e=3 width=2" ∷ "scheme=9 e=4 width=0" ∷ "scheme=9 e=4 width=256"
    ∷ "scheme=9 e=757 width=77" ∷ "scheme=10 e=246 width=159" ∷ "scheme=9 e=735 width=79" ∷ "scheme=9 e=4 width=251"
    ∷ "scheme=09 e=4 width=2" ∷ "scheme=9  e=4 width=2" ∷ "scheme=18446744073709551625 e=4 width=2" ∷ "scheme=9 e=4 width=2\r" ∷ "" ∷ [])
    ≡ Some (record { scheme = Gf2; size = 4; width = 2 }) ∷ Some (record { scheme = Gf256; size = 245; width = 159 })
    ∷ Some (record { scheme = Gf2; size = 734; width = 79 }) ∷ Some (record { scheme = Gf2; size = 4; width = 250 })
    ∷ None ∷ None ∷ None ∷ None ∷ None ∷ None ∷ None ∷ None ∷ None ∷ None ∷ None ∷ None ∷ None ∷ []
unfolding in_range setting_of after number_from number_in values_in setting_named
first_lines = refl

-- what is taken of a piece: a bad first line and no more; all of it, the last line not ended; nothing where output is nearly full
pub takings : taken_from opening [] 0 (ascii "scheme=8 e=4 width=2\nkind=repair packet=\n")
    ∷ taken_from opening [] 0 (ascii "scheme=9 e=4 width=2\nkind=repair") ∷ taken_from opening [] 65459 (ascii "scheme=9") ∷ []
    ≡ 21 ∷ 32 ∷ 0 ∷ []
unfolding in_range setting_of after number_from number_in values_in setting_named after_line printed_line taken_of
takings = refl
