-- What the receiver's public calls promise, in whatever way `Layout` a memory holds a state.
-- m and v are the receiver's memory and the working memory, m' and v' these afterwards; a is the answer.
use Rattle.std.specs.Borrow.{Bor}
use Rattle.std.specs.Prelude.{◌≡◌, ◌≤◌, ◌+◌, ◌↔◌, ◌⊎◌, Result, Ok, Err}
use Rattle.words.specs.Words.{ℕ, length, List, [], Some, None, Bool, Option, ltb, cond}
use Rattle.memory.specs.Part.{part, LiesAt}
use Rattle.wire.specs.declared.Setting.{Setting}
use Rattle.wire.specs.Settings.{setting_of}
use Rattle.starts.specs.Adu.{HandedAs, Leaves}
use Rattle.starts.specs.Starts.{Starts, nowhere}
use Rattle.holding.specs.declared.Header.{Header}
use Rattle.history.specs.Symbol.{Symbol, bytes_of}
use Rattle.wire.specs.Answers.{Said, value, refusal, said}
use Rattle.history.specs.History.{Call, esi_of, reading, memory_size, working_size}
use Rattle.history.specs.Model.{State, opened, found_by, Outcome, refused, done, state_after, receiving, marking, Finding, shows, hides, finding, adu_at}
use Rattle.history.specs.Model.{Origins, unheard, origins_after}
use Rattle.holding.specs.Header.{header_in}
use Rattle.memory.specs.Contained.{Contained}
pub use Rattle.receiver.specs.Answers.{answer_of, shown_of, handed_said}
pub use Rattle.receiver.specs.Draws.{draws_for}
use Rattle.wire.specs.declared.Refusal.{Refusal}

-- How a memory holds a state.
pub record Layout : Type 1 where
  -- The memory holds the state of a receiver that was opened with the setting and announces these flows.
  pub Holds : List ℕ → (s : Setting) (flows : List ℕ) → State s → Type 0
  -- The memory that holds the state marks these positions as starts, by their distance from the base, up to the width.
  pub Marks : List ℕ → (s : Setting) → State s → Starts → Type 0
  -- The memory that holds the state says that these positions are heard, and no others from the base on.
  pub Hears : List ℕ → (s : Setting) → State s → Origins → Type 0
  -- Where in the memory the symbol at a position starts.
  pub symbol_start : Setting → (position : ℕ) → ℕ

-- Opening on `room` bytes: 1 where a value is none of its values, 2 where the memory is too short, else 0.
abbrev pub opening : Option Setting → (room : ℕ) → Said
opening None room = refusal 1
opening (Some s) room = cond (ltb room (memory_size s)) (refusal 2) (value 0)

-- d are the draws that the packet takes; both numbers are small, whatever the memory.
pub record Drew (c : Call) (m : List ℕ) (n d : ℕ) : Type 0 where
  pub draws : (h : Header) → header_in m ≡ Some h → d ≡ draws_for h.setting c
  pub small : (n ≤ 65535) × (d ≤ 69360)

-- A refusal has no draws.
abbrev pub Draws : Call → (m : List ℕ) → Result (ℕ × ℕ) Refusal → Type 0
Draws c m (Ok (n, d)) = Drew c m n d
Draws c m (Err r) = Unit {0}

module _ (L : Layout) where
  open L use {Holds, Marks, Hears, symbol_start}

  -- Opening with a scheme, E and width, and the 32 bytes of the flows.
  pub record Opened (scheme E w : ℕ) (flows m m' : List ℕ) (a : Result ℕ Refusal) : Type 0 where
    pub answer : said a ≡ opening (setting_of scheme E w) (length m)
    pub refused : (n : ℕ) → said a ≡ refusal n → m' ≡ m
    pub contained : (s : Setting) → setting_of scheme E w ≡ Some s → Contained (memory_size s) m m'
    pub holds : (s : Setting) → setting_of scheme E w ≡ Some s → said a ≡ value 0 → Holds m' s flows (opened s)
    -- No position is marked.
    pub starts : (s : Setting) → setting_of scheme E w ≡ Some s → said a ≡ value 0 → Marks m' s (opened s) nowhere
    -- None is heard.
    pub origins : (s : Setting) → setting_of scheme E w ≡ Some s → said a ≡ value 0 → Hears m' s (opened s) unheard

  -- A packet call did what it comes to.
  abbrev pub Follows : (s : Setting) (flows : List ℕ) → Outcome s → (m m' : List ℕ) → Result ℕ Refusal → Type 0
  Follows s flows (refused n) m m' a = (said a ≡ refusal n) × (m' ≡ m)
  Follows s flows (done n t) m m' a = (said a ≡ value n) × Holds m' s flows (Some t)

  -- A packet call, on any memory: refusal 3 exactly where it has no receiver's header, and then working memory too is as it was; a refusal changes
  -- nothing but working memory; lengths, and bytes past the sizes, are kept. Where the memory holds a state, the call does what it comes to.
  pub record Received (c : Call) (m m' v v' : List ℕ) (a : Result ℕ Refusal) : Type 0 where
    pub unopened : (said a ≡ refusal 3) ↔ (header_in m ≡ None)
    pub untouched : header_in m ≡ None → v' ≡ v
    pub refused : (n : ℕ) → said a ≡ refusal n → m' ≡ m
    pub contained : (h : Header) → header_in m ≡ Some h → Contained (memory_size h.setting) m m' × Contained (working_size h.setting) v v'
    pub follows : (s : Setting) (flows : List ℕ) (t : State s) → Holds m s flows t → Follows s flows (receiving s flows t (length v) c) m m' a
    -- And the marks are those that it comes to.
    pub starts : (s : Setting) (flows : List ℕ) (t : State s) (M : Starts) → Holds m s flows t → Marks m s t M
        → let j = found_by s t (esi_of c) in
        let o = receiving s flows t (length v) c in
        Marks m' s (state_after t o) (marking s j M (reading s flows j.base (length v) c) o)
    -- And those positions are heard that it comes to.
    pub origins : (s : Setting) (flows : List ℕ) (t : State s) (H : Origins) → Holds m s flows t → Hears m s t H
        → let j = found_by s t (esi_of c) in
        let o = receiving s flows t (length v) c in
        Hears m' s (state_after t o) (origins_after (reading s flows j.base (length v) c) o H)

  -- A packet call, with the draws beside the count.
  pub record PacketAnswered (c : Call) (m m' v v' : List ℕ) (a : Result (ℕ × ℕ) Refusal) : Type 0 where
    pub received : Received c m m' v v' (answer_of a)
    pub draws : Draws c m a

  -- The symbol call found this: it answers 0 for a known symbol, else a refusal.
  abbrev pub Finds : {E : ℕ} → Finding E → Result ℕ Refusal → Type 0
  Finds (shows p v) a = said a ≡ value 0
  Finds (hides n) a = said a ≡ refusal n

  -- The symbol call for the ESI e, which changes nothing: on any memory its only number is 0.
  pub record SymbolAnswered (m : List ℕ) (e : ℕ) (a : Result ℕ Refusal) : Type 0 where
    pub unopened : (said a ≡ refusal 3) ↔ (header_in m ≡ None)
    pub zero : (n : ℕ) → said a ≡ value n → n ≡ 0
    pub finds : (s : Setting) (flows : List ℕ) (t : State s) → Holds m s flows t → Finds (finding s t e) a

  -- The symbol call, with the origin beside the 0: whether the known position is heard.
  pub record SymbolShown (m : List ℕ) (e : ℕ) (a : Result Bool Refusal) : Type 0 where
    pub answered : SymbolAnswered m e (shown_of a)
    pub origin : (s : Setting) (flows : List ℕ) (t : State s) (H : Origins) → Holds m s flows t → Hears m s t H → (p : ℕ) (v : Symbol s.size) (heard : Bool)
        → finding s t e ≡ shows p v → a ≡ Ok heard → heard ≡ H p

  -- A known symbol is shown as the part of the memory that holds it; else the part is empty.
  abbrev pub Shows : (s : Setting) → Finding s.size → (m part : Bor (List ℕ)) → Type 0
  Shows s (shows p v) m part = (part.now ≡ bytes_of s.size v) × LiesAt part m (symbol_start s p) s.size
  Shows s (hides n) m part = part.now ≡ []

  -- The call for the part, for the ESI e: on any memory the part is empty, or E bytes that lie in it; it is empty where the symbol call says 3.
  pub record PartShown (m part : Bor (List ℕ)) (e : ℕ) : Type 0 where
    pub unopened : header_in m.now ≡ None → part.now ≡ []
    pub within : (h : Header) → header_in m.now ≡ Some h → (part.now ≡ []) ⊎ ((at : ℕ) × LiesAt part m at h.setting.size)
    pub whole : (h : Header) → header_in m.now ≡ Some h → (part.now ≡ []) ⊎ (length part.now ≡ h.setting.size)
    pub shows : (s : Setting) (flows : List ℕ) (t : State s) → Holds m.now s flows t → Shows s (finding s t e) m part

  -- The call for the place found this: a known symbol's bytes start at its place; else it is the symbol call's refusal.
  abbrev pub Places : (s : Setting) → Finding s.size → List ℕ → Result ℕ Refusal → Type 0
  Places s (shows p v) m a = (said a ≡ value (symbol_start s p)) × (part (symbol_start s p) s.size m ≡ bytes_of s.size v)
  Places s (hides n) m a = said a ≡ refusal n

  -- The call for the place of a symbol, for the ESI e, which changes nothing: on any memory a place is that of E bytes in it.
  pub record PlaceAnswered (m : List ℕ) (e : ℕ) (a : Result ℕ Refusal) : Type 0 where
    pub unopened : (said a ≡ refusal 3) ↔ (header_in m ≡ None)
    pub within : (h : Header) (at : ℕ) → header_in m ≡ Some h → said a ≡ value at → at + h.setting.size ≤ length m
    pub places : (s : Setting) (flows : List ℕ) (t : State s) → Holds m s flows t → Places s (finding s t e) m a

  -- The ADU call for the ESI e, which changes nothing but its output.
  pub record AduAnswered (m : List ℕ) (e : ℕ) (out out' : List ℕ) (a : Result (ℕ × ℕ) Refusal) : Type 0 where
    pub unopened : (handed_said a ≡ refusal 3) ↔ (header_in m ≡ None)
    pub leaves : Leaves out out' a
    pub hands : (s : Setting) (flows : List ℕ) (t : State s) (M : Starts) → Holds m s flows t → Marks m s t M
        → HandedAs (adu_at s flows t M (length out) e) out out' a
