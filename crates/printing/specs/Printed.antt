-- The lines that are printed of a capture (document 02, No. 4).
use Rattle.std.specs.Prelude.{◌++◌}
use Rattle.words.specs.Words.{ℕ, List}
use Rattle.text.specs.Text.{ascii, field}

-- the line of the n-th packet line: its answer, and how many positions became known
unfoldable pub record_line : (n answer known : ℕ) → List ℕ
record_line n answer known = field "n=" n ++ (field " answer=" answer ++ (field " known=" known ++ ascii "\n"))

-- the last line
unfoldable pub last_line : (lines accepted refused known : ℕ) → List ℕ
last_line lines accepted refused known =
    field "lines=" lines ++ (field " accepted=" accepted ++ (field " refused=" refused ++ (field " known=" known ++ ascii "\n")))
