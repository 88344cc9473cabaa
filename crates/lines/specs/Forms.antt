-- The forms that lines have (document 02, No. 4): the first line of a capture, and packet lines.
use Rattle.std.specs.Prelude.{◌≡◌, ◌≤◌, ◌++◌}
use Rattle.words.specs.Words.{ℕ, List, length}
use Rattle.text.specs.Text.{ascii, hexadecimal, field}
use Rattle.history.specs.History.{Call, source-call, repair-call, OfBytes}

-- scheme, E and width, as a first line names them
pub record Values : Type 0 where
  pub scheme : ℕ
  pub size : ℕ
  pub width : ℕ

-- the first line with these values
abbrev pub first_line : Values → List ℕ
first_line v = field "scheme=" v.scheme ++ (field " e=" v.size ++ field " width=" v.width)

-- the packet line of a call
abbrev pub packet_line : Call → List ℕ
packet_line (source-call flow packet) = field "kind=source flow=" flow ++ (ascii " packet=" ++ hexadecimal packet)
packet_line (repair-call packet) = ascii "kind=repair packet=" ++ hexadecimal packet

-- the most characters that a line has
abbrev pub longest : ℕ
longest = 8192

-- a line is the packet line of a call: its flow is 0 to 255, its packet bytes, and it is not too long
pub record Says (l : List ℕ) (c : Call) : Type 0 where
  pub text : l ≡ packet_line c
  pub bytes : OfBytes c
  pub short : length l ≤ longest
