-- Receivers that have accepted the same packets know and show the same: the order is nothing to it (document 02, No. 10).
use Rattle.std.specs.Borrow.{Bor}
use Rattle.std.specs.Prelude.{◌≡◌, ◌∷◌, ◌++◌, ◌↔◌, ◌⊎◌, Result, Ok}
use Rattle.words.specs.Words.{ℕ, List, length, Some, true, Bool}
use mathlib.Core.List.{Memᴰ}
use Rattle.memory.specs.Part.{part}
use Rattle.wire.specs.declared.Setting.{Setting}
use Rattle.wire.specs.Settings.{setting_of}
use Rattle.wire.specs.Answers.{value, refusal, said}
use Rattle.history.specs.History.{Located, first, Known, Call, located, IsValue, base_of}
use Rattle.receiver.specs.Answers.{shown_of, handed_said}
use Rattle.receiver.specs.Promises.{Layout, Opened, Received, SymbolShown, PartShown, PlaceAnswered, AduAnswered}
use Rattle.claims.specs.Run.{Step, Run, final, read, history}
use Rattle.wire.specs.declared.Refusal.{Refusal}

-- A call of the list brought the packet c and was accepted, and p is the first position at which the packet was read.
pub record AcceptedAt (s : Setting) (flows : List ℕ) (ts : List Step) (c : Call) (p : ℕ) : Type 0 where
  pub before : List Step
  pub step : Step
  pub after : List Step
  pub split : ts ≡ before ++ (step ∷ after)
  pub brings : step.call ≡ c
  pub accepted : IsValue (said step.answer)
  pub packet : Located
  pub read_as : read s flows (history s flows before) step ≡ located packet
  pub at : first packet ≡ p

-- Two ADU calls, lent the same output, answer and write the same; or one of them says 13, since starts may differ.
abbrev pub HandedAlike : (a b : Result (ℕ × ℕ) Refusal) (out' out'' : List ℕ) → Type 0
HandedAlike a b out' out'' =
    ((handed_said a ≡ handed_said b) × (out' ≡ out'')) ⊎ ((handed_said a ≡ refusal 13) ⊎ (handed_said b ≡ refusal 13))

-- What the calls that show may answer by their promises for the ESI e, on the memories m and n of two receivers.
pub record ShownAlike (L : Layout) (E : ℕ) (m n : List ℕ) (e : ℕ) : Type 0 where
  -- The symbol call answers the same number, and says heard beside its 0 in both or in neither.
  pub answers : (a b : Result Bool Refusal) → SymbolShown L m e a → SymbolShown L n e b → said (shown_of a) ≡ said (shown_of b)
  pub origins : (a b : Result Bool Refusal) → SymbolShown L m e a → SymbolShown L n e b → (a ≡ Ok true) ↔ (b ≡ Ok true)
  -- The parts have the same bytes.
  pub parts : (memory shown memory' shown' : Bor (List ℕ)) → memory.now ≡ m → PartShown L memory shown e
      → memory'.now ≡ n → PartShown L memory' shown' e → shown.now ≡ shown'.now
  -- The call for the place answers the same, and there stand the same bytes.
  pub places : (a b : Result ℕ Refusal) → PlaceAnswered L m e a → PlaceAnswered L n e b
      → (said a ≡ said b) × ((at : ℕ) → said a ≡ value at → part at E m ≡ part at E n)
  -- The ADU calls are alike.
  pub adus : (out out' out'' : List ℕ) (a b : Result (ℕ × ℕ) Refusal) → AduAnswered L m e out out' a → AduAnswered L n e out out'' b
      → HandedAlike a b out' out''

-- Whatever packet comes next gets the same answer from both, on as much working memory.
abbrev pub NextAlike : Layout → (m n : List ℕ) → Type 0
NextAlike L m n =
    (c : Call) (m' n' v v' w w' : List ℕ) (a b : Result ℕ Refusal) → length v ≡ length w
    → Received L c m m' v v' a → Received L c n n' w w' b → said a ≡ said b

-- Two receivers agree, after the calls ts and us, which have left the memories m and n.
pub record Agree (L : Layout) (s : Setting) (flows : List ℕ) (ts us : List Step) (m n : List ℕ) : Type 0 where
  -- Their windows end equal.
  pub windows : base_of s (history s flows ts) ≡ base_of s (history s flows us)
  -- They know the same positions of the whole stream.
  pub known : (p : ℕ) → Known s.size (history s flows ts) p ↔ Known s.size (history s flows us) p
  -- They show the same, whatever the ESI.
  pub shown : (e : ℕ) → ShownAlike L s.size m n e
  -- And they go on alike.
  pub next : NextAlike L m n

-- Two receivers that were opened alike, after every two lists of packet calls: where they have accepted alike, they
-- agree.
abbrev pub OfTwo : Layout → (Alike : (s : Setting) (flows : List ℕ) (ts us : List Step) → Type 0) → Type 0
OfTwo L Alike =
    (scheme E w : ℕ) (flows m₀ m n₀ n : List ℕ) (a b : Result ℕ Refusal) → Opened L scheme E w flows m₀ m a → said a ≡ value 0
    → Opened L scheme E w flows n₀ n b → said b ≡ value 0 → (ts us : List Step) → Run L m ts → Run L n us
    → (s : Setting) × (setting_of scheme E w ≡ Some s)
    × (Alike s flows ts us → Agree L s flows ts us (final m ts) (final n us))

-- They have accepted the same packets, each read at the same positions, in whatever order and however often. Document
-- 02 asks besides that none is refused in either and that their windows end equal: what is refused leaves no trace,
-- and that the windows end equal follows.
abbrev pub TwoPaths : Layout → Type 0
TwoPaths L =
    OfTwo L (λ s flows ts us. (c : Call) (p : ℕ) → AcceptedAt s flows ts c p ↔ AcceptedAt s flows us c p)

-- The same where what they have accepted says the same, by whatever packets: their histories are of the same packets
-- as read.
abbrev pub TwoOrders : Layout → Type 0
TwoOrders L =
    OfTwo L (λ s flows ts us. (q : Located) → Memᴰ q (history s flows ts) ↔ Memᴰ q (history s flows us))
