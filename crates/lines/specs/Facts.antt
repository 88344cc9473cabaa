-- Computed from how lines are read: document 02's sample, and lines that have not the form.
use Rattle.std.specs.Prelude.{◌≡◌, ◌∷◌, ◌++◌}
use Rattle.words.specs.Words.{refl, [], Some, None, map, replicate}
use Rattle.text.specs.Text.{ascii}
use Rattle.history.specs.History.{source-call, repair-call}
use Rattle.lines.specs.Lines.{lines_from, lines_of}
use Rattle.lines.specs.Reading.{after, number_from, number_in, value_of, bytes_in, values_in, repair_in, source_in, call_in}

-- a line without 0A, an empty line, and no line after the last 0A
pub ends : lines_of (ascii "a\n\nb") ∷ lines_of (ascii "a\n\n") ∷ lines_of (ascii "\n") ∷ lines_of [] ∷ []
    ≡ (ascii "a" ∷ [] ∷ ascii "b" ∷ []) ∷ (ascii "a" ∷ [] ∷ []) ∷ ([] ∷ []) ∷ [] ∷ []
unfolding lines_from
ends = refl

-- the first line
pub first : values_in (ascii "scheme=9 e=4 width=2") ≡ Some (record { scheme = 9; size = 4; width = 2 })
unfolding after number_from number_in values_in
first = refl

pub packets : map (λ t. call_in (ascii t))
    ("kind=source flow=1 packet=4100000000" ∷ "kind=repair packet=0000F0020000000000000003" ∷ "kind=repair packet=" ∷ [])
    ≡ Some (source-call 1 (65 ∷ 0 ∷ 0 ∷ 0 ∷ 0 ∷ [])) ∷ Some (repair-call (0 ∷ 0 ∷ 240 ∷ 2 ∷ 0 ∷ 0 ∷ 0 ∷ 0 ∷ 0 ∷ 0 ∷ 0 ∷ 3 ∷ []))
    ∷ Some (repair-call []) ∷ []
unfolding after number_from number_in value_of bytes_in repair_in source_in call_in
packets = refl

-- lines that are not of the form: a flow past 255, a leading zero, no flow, a small letter, half a byte, a blank at the end, two blanks, another key, none
pub others : map (λ t. call_in (ascii t))
    ("kind=source flow=256 packet=4100000000" ∷ "kind=source flow=01 packet=4100000000" ∷ "kind=source flow= packet=" ∷ "kind=repair packet=0f"
    ∷ "kind=repair packet=0" ∷ "kind=repair packet=00 " ∷ "kind=repair  packet=00" ∷ "kind=other packet=00" ∷ "" ∷ [])
    ≡ None ∷ None ∷ None ∷ None ∷ None ∷ None ∷ None ∷ None ∷ None ∷ []
unfolding after number_from number_in value_of bytes_in repair_in source_in call_in
others = refl

-- a line of 8,192 characters, and one of 8,193
pub longest_lines : call_in (ascii "kind=source flow=1 packet=" ++ replicate 8166 48) ∷ call_in (ascii "kind=source flow=10 packet=" ++ replicate 8166 48) ∷ []
    ≡ Some (source-call 1 (replicate 4083 0)) ∷ None ∷ []
unfolding after number_from number_in value_of bytes_in repair_in source_in call_in
longest_lines = refl
