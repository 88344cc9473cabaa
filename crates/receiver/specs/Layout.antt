-- The layout of the code (crate `holding`): how the receiver's memory holds a state, marks starts, says what was heard, and where a symbol stands.
use Rattle.receiver.specs.Promises.{Layout}
use Rattle.holding.specs.Layout.{HoldsWith, Marks, Hears, symbol_start}

abbrev pub receiver_layout : Layout
receiver_layout = record { Holds = HoldsWith; Marks = Marks; Hears = Hears; symbol_start = symbol_start }
