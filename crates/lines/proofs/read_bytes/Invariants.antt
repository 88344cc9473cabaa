-- `lines::read_bytes` meets its contract. The loop's invariant: the bytes before k are those of the digits before `2 * k`.
use Rattle.std.specs.Prelude.{◌≡◌, ◌*◌}
use Rattle.words.specs.Words.{length}
use Rattle.lines.proofs.Digits.{Bytewise}
use Rattle.lines.proofs.read_bytes.Given as goal

abbrev pub invariant-loop-k : goal.invariant-loop-k
invariant-loop-k l = (length l.packet ≡ length l.initial.packet) × (2 * l.count ≡ length l.digits) × Bytewise l.digits l.packet l.k
