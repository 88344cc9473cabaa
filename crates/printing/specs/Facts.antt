-- Computed from the definitions: document 02's sample.
use Rattle.std.specs.Prelude.{◌≡◌, ◌++◌}
use Rattle.words.specs.Words.{refl}
use Rattle.text.specs.Text.{ascii, digit, decimal_within, decimal}
use Rattle.printing.specs.Printed.{record_line, last_line}

pub sample : record_line 1 0 1 ++ (record_line 2 0 1 ++ last_line 2 2 0 2)
    ≡ ascii "n=1 answer=0 known=1\nn=2 answer=0 known=1\nlines=2 accepted=2 refused=0 known=2\n"
unfolding digit decimal_within decimal record_line last_line
sample = refl
