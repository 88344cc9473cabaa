-- What is claimed of every list of packet calls from an opening to recover a block (document 02, No. 9). The packets accepted say, each, that its symbol is the
-- one with its ESI (`says`, crate `recovery`: `Recovery.polynomial` and `sources` tell what that is); a block is a filling of the positions 0 to k - 1.
use Rattle.std.specs.Borrow.{Bor}
use Rattle.std.specs.Prelude.{◌≡◌, ◌≤◌, ◌<◌, ◌∷◌, ◌++◌, ◌↔◌, ◌⊎◌, Result, Ok}
use Rattle.words.specs.Words.{ℕ, List, [], true, Bool}
use Rattle.memory.specs.Part.{part}
use Rattle.wire.specs.Answers.{Said, value, refusal, said}
use Rattle.history.specs.Symbol.{bytes_of}
use Rattle.history.specs.History.{Filling, All, Consistent, Known, Counted, IsValue}
use Rattle.receiver.specs.Answers.{shown_of}
use Rattle.claims.specs.Run.{Step, final}
use Rattle.recovery.specs.Block.{Packet, says, all_say, Heard, HeardCount, Recovery}
use Rattle.blocks.specs.declared.Block.{Block}
use Rattle.blocks.specs.Block.{block_of}
use Rattle.block_receiver.specs.Reading.{Reading, fails, located}
use Rattle.block_receiver.specs.Promises.{Layout, Opened, SymbolShown, PartShown, PlaceAnswered}
use Rattle.recovery_claims.specs.Run.{Run, read, accepted}
use Rattle.wire.specs.declared.Refusal.{Refusal}

module _ (b : Block) where
  open b use {size as E, k}

  -- Some block satisfies a packet and all accepted before; and a source symbol is known after a packet and was not before it.
  abbrev pub Agrees : List Packet → Packet → Type 0
  Agrees ps p = Consistent E (says k p ∷ all_say k ps)

  abbrev pub New : List Packet → Packet → ℕ → Type 0
  New ps p i = Known E (says k p ∷ all_say k ps) i × ¬ Known E (all_say k ps) i

  -- What the next call has to answer, after the packets ps were accepted.
  pub record CallJudged (ps : List Packet) (r : Reading) (a : Said) : Type 0 where
    -- It is accepted exactly when it passes the checks and some block satisfies it and all accepted before.
    pub accepted : IsValue a ↔ ((p : Packet) × (r ≡ located p) × Agrees ps p)
    -- The answer counts the source symbols that are known now and were not before.
    pub counted : (p : Packet) (n : ℕ) → r ≡ located p → a ≡ value n → Counted (New ps p) k n
    -- Where a check fails, the number is that of the first; where none does, 11 says that no block satisfies it and all accepted before.
    pub failed : (n : ℕ) → r ≡ fails n → a ≡ refusal n
    pub contradicts : (p : Packet) → r ≡ located p → (a ≡ refusal 11) ↔ ¬ Agrees ps p

  -- The calls that show the symbol with the ESI e, after the packets ps, of which n have different ESIs, when the memory is m: of whatever they may answer by
  -- their promises.
  pub record SymbolJudged (L : Layout) (m : List ℕ) (ps : List Packet) (n e : ℕ) : Type 0 where
    -- The symbol call answers 0 or 12; 0 exactly for one of the k source symbols, when k symbols with different ESIs were accepted, or that one was.
    pub answers : (a : Result Bool Refusal) → SymbolShown L m e a → (said (shown_of a) ≡ value 0) ⊎ (said (shown_of a) ≡ refusal 12)
    pub shown : (a : Result Bool Refusal) → SymbolShown L m e a → (said (shown_of a) ≡ value 0) ↔ ((e < k) × ((k ≤ n) ⊎ Heard ps e))
    -- That is when all blocks that satisfy every accepted packet have the same bytes there; then those are shown, and else the part is empty.
    pub known : (a : Result Bool Refusal) → SymbolShown L m e a → (said (shown_of a) ≡ value 0) ↔ ((e < k) × Known E (all_say k ps) e)
    pub bytes : (memory shown : Bor (List ℕ)) → memory.now ≡ m → PartShown L memory shown e → e < k → Known E (all_say k ps) e
        → (f : Filling E) → All E (all_say k ps) f → shown.now ≡ bytes_of E (f e)
    pub nothing : (memory shown : Bor (List ℕ)) → memory.now ≡ m → PartShown L memory shown e → ¬ ((e < k) × Known E (all_say k ps) e) → shown.now ≡ []
    -- The call for its place answers where these bytes start in the memory, or 12.
    pub place : (a : Result ℕ Refusal) → PlaceAnswered L m e a → e < k → Known E (all_say k ps) e
        → (at : ℕ) × (said a ≡ value at) × ((f : Filling E) → All E (all_say k ps) f → part at E m ≡ bytes_of E (f e))
    pub nowhere : (a : Result ℕ Refusal) → PlaceAnswered L m e a → ¬ ((e < k) × Known E (all_say k ps) e) → said a ≡ refusal 12
    -- Beside the 0 the symbol call says heard exactly when a source packet brought it.
    pub heard : (a : Result Bool Refusal) → SymbolShown L m e a → (a ≡ Ok true) ↔ ((e < k) × Heard ps e)

  -- Each call of the list, after the calls before it, is answered so.
  abbrev pub Answered : List Step → Type 0
  Answered ts =
      (before : List Step) (t : Step) (after : List Step) → ts ≡ before ++ (t ∷ after) → CallJudged (accepted b before) (read b t) (said t.answer)

  -- All that is claimed of the list of calls `ts` that has left the memory m.
  pub record Recovers (L : Layout) (ts : List Step) (m : List ℕ) : Type 0 where
    pub calls : Answered ts
    -- At least one block satisfies every accepted packet.
    pub consistent : Consistent E (all_say k (accepted b ts))
    -- How many different ESIs were accepted can be told; the block is recovered exactly when these are k or more.
    pub different : (n : ℕ) × HeardCount (accepted b ts) n
    pub recovered : (n : ℕ) → HeardCount (accepted b ts) n → ((e : ℕ) → e < k → Known E (all_say k (accepted b ts)) e) ↔ (k ≤ n)
    pub symbols : (n : ℕ) → HeardCount (accepted b ts) n → (e : ℕ) → SymbolJudged L m (accepted b ts) n e
    -- What a packet says.
    pub meaning : Recovery E k

-- From memory on which opening has just answered 0, with any E, k, total and block number, it holds of every list of packet calls.
abbrev pub EveryList : Layout → Type 0
EveryList L =
    (E k total number : ℕ) (m₀ m : List ℕ) (a : Result ℕ Refusal) → Opened L E k total number m₀ m a → said a ≡ value 0
    → (ts : List Step) → Run L m ts
    → (b : Block) × (block_of E k total number ≡ Ok b) × Recovers b L ts (final m ts)
