-- How a setting is stored at the front of an end's memory: four numbers of two bytes, the kind of end (1 a sender, 2 a receiver;
-- 3 and 4 the two ends of a block, its encoder and its recovery), scheme, E and width. All ends find refusal 3 by these definitions.
use Rattle.std.specs.Prelude.{◌*◌, ◌++◌, ◌&&◌}
use Rattle.words.specs.Words.{ℕ, List, length, None, Option, cond, leb, eqb}
use Rattle.memory.specs.Part.{part}
use Rattle.memory.specs.Number.{number, bytes}
use Rattle.wire.specs.declared.Setting.{Setting}
use Rattle.wire.specs.declared.Kind.{Kind}
use Rattle.wire.specs.declared.Kind.TheVariants.{Sender, Receiver, Encoder, Recovery}
use Rattle.wire.specs.Settings.{scheme_number, setting_of}

-- the number of a kind of end
abbrev pub kind_number : Kind → ℕ
kind_number Sender = 1
kind_number Receiver = 2
kind_number Encoder = 3
kind_number Recovery = 4

-- field i of a header
unfoldable pub field : ℕ → List ℕ → ℕ
field i m = number (part (2 * i) 2 m)

-- the setting in the header of an end of this kind; none where the memory is too short for the header, of another kind, or out of range
unfoldable pub setting_in : ℕ → List ℕ → Option Setting
setting_in kind m = cond (leb 8 (length m) && eqb (field 0 m) kind) (setting_of (field 1 m) (field 2 m) (field 3 m)) None

-- the bytes of that header
unfoldable pub setting_bytes : ℕ → Setting → List ℕ
setting_bytes kind s = bytes 2 kind ++ (bytes 2 (scheme_number s.scheme) ++ (bytes 2 s.size ++ bytes 2 s.width))
