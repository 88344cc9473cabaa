-- What the public calls that recover a block promise, in whatever way `Layout` a memory holds a system.
-- m and v are the memory and the working memory, m' and v' these afterwards; a is the answer.
use Rattle.std.specs.Borrow.{Bor}
use Rattle.std.specs.Prelude.{◌≡◌, ◌≤◌, ◌+◌, ◌↔◌, ◌⊎◌, Result, Ok, Err}
use Rattle.words.specs.Words.{ℕ, length, List, [], Some, None, Bool, cond, leb}
use Rattle.memory.specs.Part.{part, LiesAt}
use Rattle.memory.specs.Contained.{Contained}
use Rattle.wire.specs.Numbers.{number_of}
use Rattle.wire.specs.Answers.{Said, value, refusal, said}
use Rattle.history.specs.Symbol.{bytes_of}
use Rattle.history.specs.History.{Call, memory_size, working_size}
use Rattle.history.specs.Model.{Finding, shows, hides, Origins, unheard}
use Rattle.receiver.specs.Answers.{answer_of, shown_of}
use Rattle.blocks.specs.declared.Block.{Block}
use Rattle.blocks.specs.Block.{block_of, setting_for}
use Rattle.blocks.specs.Stored.{block_in}
use Rattle.block_receiver.specs.Reading.{reading}
use Rattle.block_receiver.specs.Model.{System, opened, Outcome, refused, done, receiving, finding, origins_after}
use Rattle.wire.specs.declared.Refusal.{Refusal}

-- How a memory holds a block's system.
pub record Layout : Type 1 where
  -- The memory was opened to recover the block, and holds the system.
  pub Holds : List ℕ → (b : Block) → System b → Type 0
  -- It says that these source symbols are heard, and no others.
  pub Hears : List ℕ → (b : Block) → Origins → Type 0
  -- Where in the memory source symbol i starts.
  pub symbol_start : Block → (i : ℕ) → ℕ

-- Opening on `room` bytes: 1 or 18 where a number is none of its values, 2 where the memory is too short, else 0.
abbrev pub opening : Result Block Refusal → (room : ℕ) → Said
opening (Err r) room = refusal (number_of r)
opening (Ok b) room = cond (leb (memory_size (setting_for b)) room) (value 0) (refusal 2)

module _ (L : Layout) where
  open L use {Holds, Hears, symbol_start}

  -- Opening with E, k, the total and the block number.
  pub record Opened (E k total number : ℕ) (m m' : List ℕ) (a : Result ℕ Refusal) : Type 0 where
    pub answer : said a ≡ opening (block_of E k total number) (length m)
    pub refused : (n : ℕ) → said a ≡ refusal n → m' ≡ m
    pub contained : (b : Block) → block_of E k total number ≡ Ok b → Contained (memory_size (setting_for b)) m m'
    pub holds : (b : Block) → block_of E k total number ≡ Ok b → said a ≡ value 0 → Holds m' b (opened b)
    -- Nothing is heard.
    pub origins : (b : Block) → block_of E k total number ≡ Ok b → said a ≡ value 0 → Hears m' b unheard

  -- A packet call did what it comes to.
  abbrev pub Follows : (b : Block) → Outcome b → (m m' : List ℕ) → Result ℕ Refusal → Type 0
  Follows b (refused n) m m' a = (said a ≡ refusal n) × (m' ≡ m)
  Follows b (done n S) m m' a = (said a ≡ value n) × Holds m' b S

  -- A packet call, on any memory: refusal 3 exactly where it was not opened to recover a block, and then working memory too is as it was; a refusal changes
  -- nothing but working memory; lengths, and bytes past the sizes, are kept. Where the memory holds a system, the call does what it comes to.
  pub record Received (c : Call) (m m' v v' : List ℕ) (a : Result ℕ Refusal) : Type 0 where
    pub unopened : (said a ≡ refusal 3) ↔ (block_in 4 m ≡ None)
    pub untouched : block_in 4 m ≡ None → v' ≡ v
    pub refused : (n : ℕ) → said a ≡ refusal n → m' ≡ m
    pub contained : (b : Block) → block_in 4 m ≡ Some b → Contained (memory_size (setting_for b)) m m' × Contained (working_size (setting_for b)) v v'
    pub follows : (b : Block) (S : System b) → Holds m b S → Follows b (receiving b S (length v) c) m m' a
    -- And those source symbols are heard that it comes to.
    pub origins : (b : Block) (S : System b) (H : Origins) → Holds m b S → Hears m b H
        → Hears m' b (origins_after b (reading b (length v) c) (receiving b S (length v) c) H)

  -- A packet call, with the draws beside the count: there are none.
  pub record PacketAnswered (c : Call) (m m' v v' : List ℕ) (a : Result (ℕ × ℕ) Refusal) : Type 0 where
    pub received : Received c m m' v v' (answer_of a)
    pub draws : (n d : ℕ) → a ≡ Ok (n, d) → (n ≤ 65535) × (d ≡ 0)

  -- The symbol call found this: it answers 0 for a known symbol, else a refusal.
  abbrev pub Finds : {E : ℕ} → Finding E → Result ℕ Refusal → Type 0
  Finds (shows i v) a = said a ≡ value 0
  Finds (hides n) a = said a ≡ refusal n

  -- The symbol call for the ESI e, which changes nothing, with the origin beside the 0: on any memory its only number is 0.
  pub record SymbolShown (m : List ℕ) (e : ℕ) (a : Result Bool Refusal) : Type 0 where
    pub unopened : (said (shown_of a) ≡ refusal 3) ↔ (block_in 4 m ≡ None)
    pub finds : (b : Block) (S : System b) → Holds m b S → Finds (finding b S e) (shown_of a)
    pub origin : (b : Block) (S : System b) (H : Origins) → Holds m b S → Hears m b H → (heard : Bool) → a ≡ Ok heard → heard ≡ H e

  -- A known symbol is shown as the part of the memory that holds it; else the part is empty.
  abbrev pub Shows : (b : Block) → Finding b.size → (m part : Bor (List ℕ)) → Type 0
  Shows b (shows i v) m part = (part.now ≡ bytes_of b.size v) × LiesAt part m (symbol_start b i) b.size
  Shows b (hides n) m part = part.now ≡ []

  -- The call for the part, for the ESI e: on any memory the part is empty, or E bytes that lie in it; it is empty where the symbol call says 3.
  pub record PartShown (m part : Bor (List ℕ)) (e : ℕ) : Type 0 where
    pub unopened : block_in 4 m.now ≡ None → part.now ≡ []
    pub within : (b : Block) → block_in 4 m.now ≡ Some b
        → (part.now ≡ []) ⊎ ((at : ℕ) × LiesAt part m at b.size × (at + b.size ≤ length m.now))
    pub shows : (b : Block) (S : System b) → Holds m.now b S → Shows b (finding b S e) m part

  -- The call for the place found this: a known symbol's bytes start at its place; else it is the symbol call's refusal.
  abbrev pub Places : (b : Block) → Finding b.size → List ℕ → Result ℕ Refusal → Type 0
  Places b (shows i v) m a = (said a ≡ value (symbol_start b i)) × (part (symbol_start b i) b.size m ≡ bytes_of b.size v)
  Places b (hides n) m a = said a ≡ refusal n

  -- The call for the place of a symbol, for the ESI e, which changes nothing: on any memory a place is that of E bytes in it.
  pub record PlaceAnswered (m : List ℕ) (e : ℕ) (a : Result ℕ Refusal) : Type 0 where
    pub unopened : (said a ≡ refusal 3) ↔ (block_in 4 m ≡ None)
    pub within : (b : Block) (at : ℕ) → block_in 4 m ≡ Some b → said a ≡ value at → at + b.size ≤ length m
    pub places : (b : Block) (S : System b) → Holds m b S → Places b (finding b S e) m a
