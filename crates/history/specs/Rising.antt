-- Where the base is after a packet call, from the packet's bytes alone (document 01, "Receiver, as a plain history"; document 02, No. 2): the first packet
-- accepted sets it to its own first ESI; after that it rises, by the least needed, until an accepted packet's last position fits, whatever the packet says.
use Rattle.std.specs.Prelude.{◌≡◌, ◌≤◌, ◌+◌, ◌-◌}
use Rattle.words.specs.Words.{ℕ, List, Some, None, Option, max}
use Rattle.wire.specs.declared.Setting.{Setting}
use Rattle.wire.specs.Settings.{Valid}
use Rattle.wire.specs.Answers.{Said, refusal}
use Rattle.history.specs.History.{Call, OfBytes, esi_of, Log, IsValue, base_of, read_after, logged, Judged}
use Rattle.history.specs.Checking.{distance, named_by}

-- The least base from b on whose window has room for what ends before the position `end`.
pub record Rises (width b end b' : ℕ) : Type 0 where
  pub rises : b ≤ b'
  pub fits : end ≤ b' + width
  pub least : (x : ℕ) → b ≤ x → end ≤ x + width → b' ≤ x

-- The position after the last that a packet names, where it finds the base b.
abbrev pub ends_at : (s : Setting) (b : ℕ) → Call → ℕ
ends_at s b c = b + distance b c + named_by s c

-- The base before a call that answers so, and after it.
pub record BaseAfter (s : Setting) (before : Option ℕ) (c : Call) (a : Said) (after : Option ℕ) : Type 0 where
  pub joins : before ≡ None → IsValue a → after ≡ Some (esi_of c)
  pub rises : (b : ℕ) → before ≡ Some b → IsValue a → (b' : ℕ) × (after ≡ Some b') × Rises s.width b (ends_at s b c) b'
  -- The same outright.
  pub outright : (b : ℕ) → before ≡ Some b → IsValue a → after ≡ Some (max b (ends_at s b c - s.width))
  pub refused : (n : ℕ) → a ≡ refusal n → after ≡ before

-- Of every call that is answered as the history asks.
abbrev pub BaseRaised : Type 0
BaseRaised =
    (s : Setting) → Valid s → (flows : List ℕ) (l : Log) (room : ℕ) (c : Call) → OfBytes c → (a : Said) → Judged s l (read_after s flows l room c) a
    → BaseAfter s (base_of s l) c a (base_of s (logged s l (read_after s flows l room c) a))
