-- The sender's filling, and what becomes of a sender's packets at the receiver.
use Rattle.std.specs.Borrow.{Bor}
use Rattle.std.specs.Prelude.{◌≡◌, ◌≤◌, ◌+◌, ◌<◌, ◌∷◌, Result}
use Rattle.words.specs.Words.{ℕ, List, length, [], Some, true, None, get_or, Option}
use Rattle.wire.specs.declared.Setting.{Setting}
use Rattle.wire.specs.Settings.{Valid}
use Rattle.wire.specs.Packets.{symbol_count, source_adu, protected_count}
use Rattle.wire.specs.Flows.{announced}
use Rattle.wire.specs.Answers.{Said, value, refusal, said}
use Rattle.history.specs.History.{Filling, All, Call, source-call, repair-call, working_size, Log, fresh, IsValue, read_after, base_of, logged, Judged, joined_at}
use Rattle.history.specs.History.{halfway, farthest}
use Rattle.receiver.specs.Promises.{Layout, SymbolAnswered, PartShown}
use Rattle.sender.specs.Run.{SenderCall, SenderRun, symbols_of}
use Rattle.claims.specs.Written.{Packet, source, repair, Wrote}
use Rattle.claims.specs.Run.{Step, read, history}
use Rattle.claims.specs.Carrying.{Carries}
use Rattle.claims.specs.Demand.{esi, Demand3}
use Rattle.wire.specs.declared.Refusal.{Refusal}

-- The call that a packet is given to, and how many symbols it names.
abbrev pub call_of : Packet → Call
call_of (source flow p) = source-call flow p
call_of (repair p) = repair-call p

abbrev pub named : ℕ → Packet → ℕ
named E (source flow p) = symbol_count E (length (source_adu p))
named E (repair p) = protected_count p

-- Less than halfway apart.
pub record Near (p base : ℕ) : Type 0 where
  pub ahead : p < base + halfway
  pub behind : base < p + halfway

-- A packet arrives whose first symbol is the sender's p-th: it stands less than halfway from base, where the sender's symbols are numbered
-- `offset` more than positions. Before any base it tells that offset: its first position is its ESI.
abbrev pub Arrives : (base : Option ℕ) (offset p : ℕ) → Type 0
Arrives None offset p = p ≡ esi p + offset
Arrives (Some b) offset p = Near p (b + offset)

-- All packets that the list accepts are as a sender of the same scheme and E wrote them, F included, whose symbols are `all`, and stood less than
-- halfway from base on arrival.
module _ (s : Setting) (flows : List ℕ) (all : List (List ℕ)) (offset : ℕ) where
  abbrev pub AsWritten : Log → List Step → Type 0
  AsWritten l [] = Unit {0}
  AsWritten l (t ∷ ts) =
      (IsValue (said t.answer) → (x : Packet) × (p : ℕ) × (call_of x ≡ t.call) × Wrote s.scheme s.size all x p × Arrives (base_of s l) offset p)
      × AsWritten (logged s l (read s flows l t) (said t.answer)) ts

-- Then the sender's symbols from the joining position on, with any bytes after them, are a filling that satisfies them.
abbrev pub SenderFills : Type 0
SenderFills =
    (s : Setting) → Valid s → (flows : List ℕ) (all : List (List ℕ)) (offset : ℕ) (ts : List Step) → AsWritten s flows all offset fresh ts
    → (join : ℕ) → joined_at (history s flows ts) ≡ Some join
    → (f : Filling s.size) → Carries s.size join offset all f → All s.size (history s flows ts) f

-- A list of a sender's calls, and a receiver of the same scheme and E.
pub record Peers (t s : Setting) (l : List SenderCall) : Type 0 where
  pub run : SenderRun t l
  pub scheme : t.scheme ≡ s.scheme
  pub size : t.size ≡ s.size

-- n symbols from the sender's p-th on lie ahead of the base, and not too far; before any base, anywhere.
abbrev pub InReach : (base : Option ℕ) (offset p n : ℕ) → Type 0
InReach None offset p n = Unit {0}
InReach (Some b) offset p n = (b + offset ≤ p) × (p + n ≤ b + offset + farthest)

-- The receiver announces the flow of a source packet.
abbrev pub AnnouncedAt : (flows : List ℕ) → Packet → Type 0
AnnouncedAt flows (source flow p) = announced flows flow ≡ true
AnnouncedAt flows (repair p) = Unit {0}

-- Every packet of the sender's whose flow the receiver announces, that lies ahead of the base, not too far, and names no more symbols than the window has,
-- is accepted.
abbrev pub SentAccepted : Type 0
SentAccepted =
    (t s : Setting) (l : List SenderCall) → Peers t s l → Valid s
    → (flows : List ℕ) (offset : ℕ) (ts : List Step) → AsWritten s flows (symbols_of s.size l) offset fresh ts
    → (x : Packet) (p : ℕ) → Wrote s.scheme s.size (symbols_of s.size l) x p → AnnouncedAt flows x
    → InReach (base_of s (history s flows ts)) offset p (named s.size x) → named s.size x ≤ s.width
    → (room : ℕ) → working_size s ≤ room → (a : Said) → Judged s (history s flows ts) (read_after s flows (history s flows ts) room (call_of x)) a → IsValue a

-- Every such one that begins before the base, by no more than halfway, is behind: after joining, all that was sent or reaches back before it.
abbrev pub SentBehind : Type 0
SentBehind =
    (t s : Setting) (l : List SenderCall) → Peers t s l → Valid s
    → (flows : List ℕ) (offset : ℕ) (ts : List Step) → AsWritten s flows (symbols_of s.size l) offset fresh ts
    → (b : ℕ) → base_of s (history s flows ts) ≡ Some b
    → (x : Packet) (p : ℕ) → Wrote s.scheme s.size (symbols_of s.size l) x p → AnnouncedAt flows x
    → p < b + offset → b + offset ≤ p + halfway → named s.size x ≤ s.width
    → (room : ℕ) → working_size s ≤ room → (a : Said) → Judged s (history s flows ts) (read_after s flows (history s flows ts) room (call_of x)) a → a ≡ refusal 8

-- And what is shown at a position of the sender's is the sender's symbol.
abbrev pub SentShown : Layout → Type 0
SentShown L =
    (t s : Setting) (l : List SenderCall) → Peers t s l → (flows : List ℕ) (ts : List Step) (m : List ℕ) → Demand3 L s flows ts m
    → (offset : ℕ) → AsWritten s flows (symbols_of s.size l) offset fresh ts
    → (b : ℕ) → base_of s (history s flows ts) ≡ Some b → (i : ℕ) → i < s.width → b + i + offset < length (symbols_of s.size l)
    → (a : Result ℕ Refusal) → SymbolAnswered L m (esi (b + i)) a → said a ≡ value 0
    → (memory part : Bor (List ℕ)) → memory.now ≡ m → PartShown L memory part (esi (b + i))
    → part.now ≡ get_or (symbols_of s.size l) (b + i + offset) []
