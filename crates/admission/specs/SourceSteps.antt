-- Contracts of inner functions: a reader need not believe these.
-- A source packet's equations.
use Rattle.words.specs.Words.{ℕ, length, List}
use Rattle.wire.specs.Packets.{symbol_count, symbol_at}
use Rattle.decoder.specs.Bytes.{Coded}
use Rattle.decoder.specs.Model.{Row}
use Rattle.decoder.specs.Receiver.{embed}
use Rattle.decoder.specs.Packets.{row, only}
use Rattle.history.specs.Symbol.{symbol_of}

-- The equation of the i-th symbol of an ADU, whose positions are from the d-th of the window on.
abbrev pub equation_of : (w E flow : ℕ) (adu : List ℕ) (d i : ℕ) → Row (Coded E) w
equation_of w E flow adu d i =
    let n = symbol_count E (length adu) in
    embed (Coded E) w d n (row (Coded E) n (only (Coded E) i) (symbol_of E (symbol_at flow adu E i)))
