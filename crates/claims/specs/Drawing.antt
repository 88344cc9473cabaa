-- The draws that the calls give beside their counts: at both ends, from an opening on.
use Rattle.std.specs.Prelude.{◌≡◌, Result, Ok}
use Rattle.words.specs.Words.{ℕ, List, Some, take}
use Rattle.wire.specs.declared.Setting.{Setting}
use Rattle.wire.specs.Settings.{setting_of}
use Rattle.sender.specs.Promises.{RepairMade}
use Rattle.wire.specs.Answers.{value, said}
use Rattle.history.specs.History.{Call, repair-call}
use Rattle.receiver.specs.Draws.{draws_for}
use Rattle.receiver.specs.Promises.{Opened, PacketAnswered}
use Rattle.receiver.specs.Layout.{receiver_layout}
use Rattle.claims.specs.Run.{Step, Run, final}
use Rattle.sender.specs.Run.{SenderCall, memory_after}
use Rattle.claims.specs.Sent.{Peers}
use Rattle.wire.specs.declared.Refusal.{Refusal}

-- After every list of packet calls from a fresh receiver, a packet call that accepts gives the draws that its packet takes with the scheme and E of the
-- opening, and 0 for a source packet.
abbrev pub AcceptedDraws : Type 0
AcceptedDraws =
    (scheme E w : ℕ) (flows m₀ m : List ℕ) (a : Result ℕ Refusal) → Opened receiver_layout scheme E w flows m₀ m a → said a ≡ value 0
    → (ts : List Step) → Run receiver_layout m ts
    → (s : Setting) × (setting_of scheme E w ≡ Some s)
    × ((c : Call) (m' v v' : List ℕ) (n d : ℕ) → PacketAnswered receiver_layout c (final m ts) m' v v' (Ok (n, d)) → d ≡ draws_for s c)

-- After every list of a sender's calls, making repair gives with its packet the draws that a receiver of the same scheme and E takes for that packet.
abbrev pub MadeDraws : Type 0
MadeDraws =
    (t s : Setting) (l : List SenderCall) (peers : Peers t s l) (key dt count n d : ℕ) (out out' : List ℕ)
    → RepairMade key dt count (memory_after peers.run.after l) out (Ok (n, d)) out' → d ≡ draws_for s (repair-call (take n out'))
