-- The draws that a packet's coefficients take at a receiver.
use Rattle.words.specs.Words.{ℕ}
use Rattle.wire.specs.declared.Setting.{Setting}
use Rattle.coefficients.specs.Coefficients.{packet_draws}
use Rattle.history.specs.History.{Call, source-call, repair-call}

-- The draws that a packet's coefficients take at a receiver of the setting; a source packet has none.
abbrev pub draws_for : Setting → Call → ℕ
draws_for s (source-call flow p) = 0
draws_for s (repair-call p) = packet_draws s.scheme s.size p
