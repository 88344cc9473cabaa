-- A list of calls of one sender, each as it promises, from an opening that answered 0; and the symbols of the ADUs that it took.
use Rattle.std.specs.Prelude.{◌≡◌, ◌<◌, ◌∷◌, ◌++◌, ◌^◌, Result, Ok, Err}
use Rattle.words.specs.Words.{ℕ, List, []}
use Rattle.memory.specs.Number.{Bytes}
use Rattle.wire.specs.declared.Setting.{Setting}
use Rattle.wire.specs.Settings.{scheme_number}
use Rattle.wire.specs.Packets.{source_symbols}
use Rattle.wire.specs.Answers.{value, said}
use Rattle.sender.specs.Promises.{Opens, Adds, RepairMade}
use Rattle.wire.specs.declared.Refusal.{Refusal}

-- a call of a sender after its opening: what it was given, the answer, and the memory and output that it left; making repair leaves the memory
pub data SenderCall : Type 0 where
  added : (flow : ℕ) (adu out : List ℕ) (answer : Result ℕ Refusal) (m' out' : List ℕ) → SenderCall
  repaired : (key dt count : ℕ) (out : List ℕ) (answer : Result (ℕ × ℕ) Refusal) (out' : List ℕ) → SenderCall

-- each call keeps its promise, on the memory that the call before it left; flow and ADU are bytes, and a key has 16 bits
abbrev pub Calls : List ℕ → List SenderCall → Type 0
Calls m [] = Unit {0}
Calls m (added flow adu out r m' out' ∷ l) = (flow < 256) × Bytes adu × Adds flow adu m out r m' out' × Calls m' l
Calls m (repaired key dt count out r out' ∷ l) = (key < 2 ^ 16) × RepairMade key dt count m out r out' × Calls m l

-- the memory that they leave
abbrev pub memory_after : List ℕ → List SenderCall → List ℕ
memory_after m [] = m
memory_after m (added flow adu out r m' out' ∷ l) = memory_after m' l
memory_after m (repaired key dt count out r out' ∷ l) = memory_after m l

-- the calls follow an opening with these flows that answered 0
pub record SenderRun (t : Setting) (l : List SenderCall) : Type 0 where
  pub flows : List ℕ
  pub before : List ℕ
  pub after : List ℕ
  pub answer : Result ℕ Refusal
  pub opened : Opens (scheme_number t.scheme) t.size t.width flows before answer after
  pub answered : said answer ≡ value 0
  pub calls : Calls after l

-- the symbols of the ADUs that the calls took, in order from number 0
abbrev pub symbols_of : ℕ → List SenderCall → List (List ℕ)
symbols_of E [] = []
symbols_of E (added flow adu out (Ok n) m' out' ∷ l) = source_symbols flow adu E ++ symbols_of E l
symbols_of E (added flow adu out (Err n) m' out' ∷ l) = symbols_of E l
symbols_of E (repaired key dt count out r out' ∷ l) = symbols_of E l
