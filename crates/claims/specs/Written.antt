-- The packets that a sender's calls wrote, and those that a sender can write: of some symbols.
use Rattle.std.specs.Prelude.{◌≡◌, ◌≤◌, ◌<◌, ◌%◌, ◌∷◌, ◌++◌, ◌^◌, Ok, Err}
use Rattle.words.specs.Words.{ℕ, List, length, [], true, take, map}
use Rattle.memory.specs.Number.{Bytes}
use Rattle.wire.specs.declared.Scheme.{Scheme}
use Rattle.wire.specs.Packets.{longest_adu, source_symbols, source_packet, repair_packet}
use Rattle.coefficients.specs.Coefficients.{keys, lists_of, all_ok}
use Rattle.rows.specs.Combination.{combination}
use Rattle.sender.specs.Run.{SenderCall, added, repaired}

-- a packet; F goes beside a source packet
pub data Packet : Type 0 where
  source : (flow : ℕ) → List ℕ → Packet
  repair : List ℕ → Packet

-- the packets written: as many bytes of the output as the call answered
abbrev pub packets_of : List SenderCall → List Packet
packets_of [] = []
packets_of (added flow adu out (Ok n) m' out' ∷ l) = source flow (take n out') ∷ packets_of l
packets_of (added flow adu out (Err n) m' out' ∷ l) = packets_of l
packets_of (repaired key dt count out (Ok (n, d)) out' ∷ l) = repair (take n out') ∷ packets_of l
packets_of (repaired key dt count out (Err n) out' ∷ l) = packets_of l

-- the packet is one that a sender of this scheme and E writes whose symbols are `all`: the source packet of an ADU whose symbols they hold, or a repair
-- packet over a stretch of them. The first symbol that it names is the sender's p-th.
pub data Wrote (scheme : Scheme) (E : ℕ) (all : List (List ℕ)) : Packet → (p : ℕ) → Type 0 where
  wrote_source : (before after : List (List ℕ)) (flow : ℕ) (adu : List ℕ) → flow < 256 → Bytes adu → length adu ≤ longest_adu
      → all ≡ before ++ (source_symbols flow adu E ++ after)
      → Wrote scheme E all (source flow (source_packet adu (length before % 2 ^ 32))) (length before)
  wrote_repair : (before window after : List (List ℕ)) (key dt count : ℕ) → key < 2 ^ 16 → dt ≤ 15 → 1 ≤ length window → length window ≤ 255
      → 1 ≤ count → count ≤ 16 → all_ok scheme dt (length window) (keys key count) ≡ true
      → all ≡ before ++ (window ++ after)
      → Wrote scheme E all
      (repair (repair_packet key dt (length window) (length before % 2 ^ 32)
      (map (λ (c : List ℕ). combination E c window) (lists_of scheme dt (length window) (keys key count)))))
      (length before)
