-- Contracts of inner functions: a reader need not believe these.
-- A repair packet's equations.
use Rattle.std.specs.Prelude.{◌+◌, ◌*◌}
use Rattle.words.specs.Words.{ℕ, List, get_or}
use Rattle.memory.specs.Part.{part}
use Rattle.decoder.specs.Bytes.{byte, Coded}
use Rattle.decoder.specs.Model.{Row}
use Rattle.decoder.specs.Receiver.{embed}
use Rattle.decoder.specs.Packets.{row}
use Rattle.history.specs.Symbol.{symbol_of}

-- The equation of a repair symbol with its n coefficients, whose positions are from the d-th of the window on.
abbrev pub repair_equation : (w E n : ℕ) (list symbol : List ℕ) (d : ℕ) → Row (Coded E) w
repair_equation w E n list symbol d = embed (Coded E) w d n (row (Coded E) n (λ j. byte (get_or list j 0)) (symbol_of E symbol))

-- That of the packet's i-th symbol, where the lists of coefficients stand one after the other, and the symbols after the packet's header.
abbrev pub equation_at : (w E n : ℕ) (lists bytes : List ℕ) (d i : ℕ) → Row (Coded E) w
equation_at w E n lists bytes d i = repair_equation w E n (part (i * n) n lists) (part (8 + i * E) E bytes) d
